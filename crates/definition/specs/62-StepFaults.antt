-- Requests 1 to 3 of document 02 on examples, computed from the definition: steps that do not fit their rule, data variables under owner steps, and refinements. The crate `cases` has more of requests 2 and 3, and how it was before each request.
use Rattle.std.specs.Prelude.{ℕ, ◌+◌, List, [], ◌∷◌, ◌++◌, map, ◌≡◌, refl, length}
use Rattle.definition.specs.01-Words.{absent}
use Rattle.definition.specs.02-Ranges.{listed}
use Rattle.definition.specs.03-Lists.{join_all}
use Rattle.definition.specs.13-Formulas.{each_use}
use Rattle.definition.specs.31-Outcome.{passed, refused}
use Rattle.definition.specs.51-Files.{audit_hour, not_due, file_of, formula_row, predicate_row, owns_row, says_row, and_row, implies_row, communicates_row, creates_row, user_action_row, step}
use Rattle.definition.specs.53-Desk.{DeskCase, computed, expected, unchanged, writes}
use Rattle.definition.specs.58-Table.{supposing, built_table}

-- Request 1 of document 02. These formulas are supposed, each by the label of its place, the first of them at step 0.
unfoldable pub suppose_all : (label : ℕ) → List ℕ → List (List ℕ)
suppose_all label [] = []
suppose_all label (f ∷ fs) = step 0 f label 0 0 ∷ suppose_all (label + 1) fs

-- A step of the rule from all of them, over these formulas and this action among them. Behind their labels stands one of mark 1 and the action; so has obligation 0.
unfoldable pub following : (formulas : List (List ℕ)) → (action rule : ℕ) → (premises : List ℕ) → (formula argument : ℕ) → List ℕ
following formulas action rule fs formula argument =
    file_of
    (record {
      agent = 0;
      action = action;
      hour = audit_hour;
      formulas = formulas;
      rows = [];
      observers = [];
      conditions = [];
      obligations = not_due each_use action ∷ [];
      labels = join_all (map (λ f. 0 ∷ f ∷ []) fs) ++ 1 ∷ action ∷ [];
      steps = suppose_all 0 fs ++ step rule formula argument 0 (length fs) ∷ [];
      premises = listed (λ j. j) (length fs) 0;
    })

-- What is said and joined: 10 is the action.
unfoldable pub said : (rule : ℕ) → (premises : List ℕ) → (formula : ℕ) → List ℕ
said rule fs formula =
    following
    -- 0 p, 1 q, 2 "p and q", 3 "p implies q"
    (predicate_row 1 absent absent absent ∷ predicate_row 2 absent absent absent ∷ and_row 0 1 ∷ implies_row 0 1
    -- 4 "0 says p to 1", 5 "1 says p to 1", 6 "1 says p to 0", 7 "0 says q to 1", 8 "1 says q to 1", 9 "0 says q to 2"
    ∷ says_row 0 0 1 ∷ says_row 1 0 1 ∷ says_row 1 0 0 ∷ says_row 0 1 1 ∷ says_row 1 1 1 ∷ says_row 0 1 2
    ∷ user_action_row 7 0 absent absent ∷ [])
    10 rule fs formula absent

-- What is owned, demanded and said of all: 1 is the action.
unfoldable pub taken : (rule : ℕ) → (premises : List ℕ) → (formula argument : ℕ) → List ℕ
taken =
    following
    -- 0 p, 2 "0 owns d0", 3 "1 owns d1", 4 r(d0, d1), 5 "0 says r(d0, d1) to 1"
    (predicate_row 1 absent absent absent ∷ user_action_row 7 0 absent absent ∷ owns_row 0 16384 ∷ owns_row 1 16385 ∷ predicate_row 3 16384 16385 absent ∷ says_row 0 4 1
    -- 6 s(x), 7 "for all agents x. s(x)", 8 s(5), 9 s of a parameter
    ∷ predicate_row 4 40960 absent absent ∷ formula_row 4 0 6 absent absent ∷ predicate_row 4 5 absent absent ∷ predicate_row 4 32768 absent absent
    -- 10 and 11: p, where the action is done at each use, and once; 12 t(d0), 13 "1 says t(d0) to 1"
    ∷ formula_row 6 0 1 0 absent ∷ formula_row 7 0 1 0 absent ∷ predicate_row 5 16384 absent absent ∷ says_row 1 12 1 ∷ [])
    1

unfoldable pub misfit_cases : List DeskCase
misfit_cases =
    -- 24, each rule that asks a kind; in rules 4 and 5 of a further premise too
    unchanged (said 3 (0 ∷ []) 0) (refused 24 1)
    ∷ unchanged (said 4 (2 ∷ 4 ∷ []) 7) (refused 24 2)
    ∷ unchanged (said 4 (3 ∷ 0 ∷ []) 7) (refused 24 2)
    ∷ unchanged (taken 5 (0 ∷ []) 5 absent) (refused 24 1)
    ∷ unchanged (taken 5 (2 ∷ 0 ∷ []) 5 absent) (refused 24 2)
    ∷ unchanged (said 7 (3 ∷ []) 0) (refused 24 1)
    ∷ unchanged (said 8 (3 ∷ []) 1) (refused 24 1)
    ∷ unchanged (said 10 (2 ∷ 0 ∷ []) 1) (refused 24 2)
    ∷ unchanged (taken 12 (0 ∷ []) 0 0) (refused 24 1)
    ∷ unchanged (taken 13 (0 ∷ []) 0 1) (refused 24 1)
    ∷ unchanged (taken 15 (0 ∷ []) 8 5) (refused 24 1)
    -- 24 before 25, and before what an argument that is not admitted would be
    ∷ unchanged (said 4 (2 ∷ 5 ∷ []) 7) (refused 24 2)
    ∷ unchanged (taken 15 (0 ∷ []) 8 40960) (refused 24 1)
    -- 25: the target, the source of the second premise, the owner in the first premise and in a further one
    ∷ unchanged (said 3 (4 ∷ []) 0) (refused 25 1)
    ∷ unchanged (said 4 (3 ∷ 5 ∷ []) 7) (refused 25 2)
    ∷ unchanged (taken 5 (3 ∷ []) 5 absent) (refused 25 1)
    ∷ unchanged (taken 5 (2 ∷ 3 ∷ []) 5 absent) (refused 25 2)
    -- 26: the premise of rule 14, the formula of rule 15
    ∷ unchanged (taken 14 (8 ∷ []) 7 32768) (refused 26 1)
    ∷ unchanged (taken 15 (7 ∷ []) 8 6) (refused 26 1)
    -- 18: an argument that is not admitted, however the bodies differ, and a rule 14 formula that is no for-all
    ∷ unchanged (taken 14 (8 ∷ []) 7 5) (refused 18 1)
    ∷ unchanged (taken 14 (9 ∷ []) 7 32800) (refused 18 1)
    ∷ unchanged (taken 14 (9 ∷ []) 9 32768) (refused 18 1)
    ∷ unchanged (taken 15 (7 ∷ []) 8 16384) (refused 18 1)
    ∷ unchanged (taken 15 (7 ∷ []) 0 40960) (refused 18 1)
    -- 18: the source or the target of the step's own formula, the second premise of rule 10, an obligation and a label of the other mark
    ∷ unchanged (said 4 (3 ∷ 4 ∷ []) 8) (refused 18 2)
    ∷ unchanged (said 4 (3 ∷ 4 ∷ []) 9) (refused 18 2)
    ∷ unchanged (taken 5 (2 ∷ []) 13 absent) (refused 18 1)
    ∷ unchanged (said 10 (3 ∷ 1 ∷ []) 1) (refused 18 2)
    ∷ unchanged (taken 12 (11 ∷ []) 0 0) (refused 18 1)
    ∷ unchanged (taken 13 (11 ∷ []) 0 1) (refused 18 1)
    -- what fits goes on: the labels are open at the end, the implication refined by is supposed, and the parameter is not fresh
    ∷ unchanged (said 3 (6 ∷ []) 0) (refused 21 0)
    ∷ unchanged (said 4 (3 ∷ 4 ∷ []) 7) (refused 28 2)
    ∷ unchanged (taken 12 (10 ∷ []) 0 0) (refused 21 0)
    ∷ unchanged (taken 13 (10 ∷ []) 0 1) (refused 21 0)
    ∷ unchanged (taken 14 (9 ∷ []) 7 32768) (refused 19 1)
    ∷ unchanged (taken 15 (7 ∷ []) 8 5) (refused 21 0)
    ∷ []

-- Request 2. Formulas with data variables: 0 p, 1 the action, 2 "0 owns d0", behind them these rows from 3 on, and an owner step from 2 over "0 says for all data y. F to .." with the last of them as F.
unfoldable pub stray_in : (rows : List (List ℕ)) → (to : ℕ) → List ℕ
stray_in rows to =
    let last = 2 + length rows in
    following
    (predicate_row 1 absent absent absent ∷ user_action_row 7 0 absent absent ∷ owns_row 0 16384 ∷ rows ++ formula_row 4 1 last absent absent ∷ says_row 0 (last + 1) to ∷ [])
    1 5 (2 ∷ []) (last + 2) absent

-- Two owner steps: the first tells row 5, the second would tell row 3. 4 is "for all data y. q(y)", 6 "for all data y. r(y)".
unfoldable pub two_strays : List ℕ
two_strays =
    supposing (0 ∷ 1 ∷ []) 0 (user_action_row 7 0 absent absent ∷ owns_row 0 16384 ∷ predicate_row 1 absent absent absent ∷ predicate_row 2 40968 absent absent ∷ formula_row 4 1 3 absent absent ∷ predicate_row 3 40968 absent absent ∷ formula_row 4 1 5 absent absent ∷ [])
    (step 0 1 0 0 0 ∷ step 5 6 absent 0 1 ∷ step 0 1 0 1 0 ∷ step 5 4 absent 1 1 ∷ []) (0 ∷ 2 ∷ [])

-- An owner step over such a formula, 4, from two premises that leave the same each-use label open.
unfoldable pub shared_stray : List ℕ
shared_stray =
    supposing (0 ∷ 2 ∷ 1 ∷ 0 ∷ []) 0 (user_action_row 7 0 absent absent ∷ owns_row 0 16384 ∷ formula_row 6 0 0 1 absent ∷ predicate_row 2 40968 absent absent ∷ formula_row 4 1 3 absent absent ∷ [])
    (step 0 2 0 0 0 ∷ step 13 1 1 0 1 ∷ step 0 2 0 1 0 ∷ step 13 1 1 1 1 ∷ step 5 4 absent 2 2 ∷ []) (0 ∷ 2 ∷ 1 ∷ 3 ∷ [])

unfoldable pub stray_cases : List DeskCase
stray_cases =
    -- in field Z, under seven for-alls more; in an "owns", said to agent 3, which is not row 3; in a user action
    unchanged (stray_in (predicate_row 2 16384 16385 40975 ∷ map (λ k. formula_row 4 1 k absent absent) (listed (λ k. k) 7 3)) 1) (refused 27 3)
    ∷ unchanged (stray_in (predicate_row 2 40968 absent absent ∷ owns_row 0 40968 ∷ []) 3) (refused 27 4)
    ∷ unchanged (stray_in (user_action_row 8 0 40968 absent ∷ formula_row 6 0 3 0 absent ∷ []) 1) (refused 27 3)
    -- behind and before a lower formula with a data parameter, an agent variable and a data object
    ∷ unchanged (stray_in (predicate_row 3 32800 40960 16384 ∷ formula_row 4 0 3 absent absent ∷ predicate_row 4 40968 absent absent ∷ implies_row 4 5 ∷ []) 1) (refused 27 5)
    ∷ unchanged (stray_in (predicate_row 3 32800 40960 16384 ∷ formula_row 4 0 3 absent absent ∷ predicate_row 4 40968 absent absent ∷ implies_row 5 4 ∷ []) 1) (refused 27 5)
    -- the first formula of an "and", and the policy of either duty
    ∷ unchanged (stray_in (predicate_row 4 40968 absent absent ∷ and_row 3 0 ∷ []) 1) (refused 27 3)
    ∷ unchanged (stray_in (predicate_row 4 40968 absent absent ∷ formula_row 6 0 1 3 absent ∷ []) 1) (refused 27 3)
    ∷ unchanged (stray_in (predicate_row 4 40968 absent absent ∷ formula_row 7 0 1 3 absent ∷ []) 1) (refused 27 3)
    -- of the first step at fault, and after 17
    ∷ unchanged two_strays (refused 27 5)
    ∷ unchanged shared_stray (refused 17 4)
    ∷ []

-- Request 3. A step by its rule, formula, argument and premises; steps one after another, with their spans.
pub record Line : Type 0 where
  pub rule : ℕ
  pub formula : ℕ
  pub argument : ℕ
  pub premises : List ℕ

unfoldable pub line : (rule formula argument : ℕ) → (premises : List ℕ) → Line
line r f a ps = record { rule = r; formula = f; argument = a; premises = ps }

unfoldable pub laid : (from : ℕ) → List Line → List (List ℕ)
laid from [] = []
laid from (l ∷ ls) = step l.rule l.formula l.argument from (length l.premises) ∷ laid (from + length l.premises) ls

-- Steps over one book with seven labels; the audited action, rows, observers, conditions and obligations are given. F is "p and q".
unfoldable pub reasoned : (action : ℕ) → (rows observers conditions : List ℕ) → (obligations : List (List ℕ)) → List Line → List ℕ
reasoned action rows observers conditions obligations lines =
    file_of
    (record {
      agent = 0;
      action = action;
      hour = audit_hour;
      formulas =
          -- 0 "0 creates d0", 1 "0 owns d0", 2 p(d0), 3 q(d0), 4 F, 5 "0 says F to 1", 6 "0 says p to 1", 7 "0 communicates p to 1", 8 "F implies p"
          creates_row 0 16384 ∷ owns_row 0 16384 ∷ predicate_row 1 16384 absent absent ∷ predicate_row 2 16384 absent absent ∷ and_row 2 3 ∷ says_row 0 4 1 ∷ says_row 0 2 1 ∷ communicates_row 0 2 1 ∷ implies_row 4 2
          -- 9 "2 says 8 to 0", 10 "2 communicates 8 to 0", 11 a duty; 12 and 13: 8, where 11 is done at each use, and once; 14 "8 and 12"
          ∷ says_row 2 8 0 ∷ communicates_row 2 8 0 ∷ user_action_row 7 0 absent absent ∷ formula_row 6 0 11 8 absent ∷ formula_row 7 0 11 8 absent ∷ and_row 8 12
          -- 15 "2 says F to 0", 16 "15 implies F", 17 "0 says 15 to 1"; 18 "1 implies 6", 19 "0 says 1 to 1", 20 "0 says 6 to 1", 21 "0 communicates 6 to 1"
          ∷ says_row 2 4 0 ∷ implies_row 15 4 ∷ says_row 0 15 1 ∷ implies_row 1 6 ∷ says_row 0 1 1 ∷ says_row 0 6 1 ∷ communicates_row 0 6 1
          -- 22: 5, where 11 is done at each use; 23 "p implies 22"
          ∷ formula_row 6 0 11 5 absent ∷ implies_row 2 22 ∷ [];
      rows = rows;
      observers = observers;
      conditions = conditions;
      obligations = obligations;
      -- 2 and 3 are the duty, at each use and once; the others suppose: 0 F, 1 "F implies p", 4 formula 15, 5 formula 1, 6 formula 23
      labels = 0 ∷ 4 ∷ 0 ∷ 8 ∷ 1 ∷ 11 ∷ 2 ∷ 11 ∷ 0 ∷ 15 ∷ 0 ∷ 1 ∷ 0 ∷ 23 ∷ [];
      steps = laid 0 lines;
      premises = join_all (map (λ l. l.premises) lines);
    })

-- The agent sees two rows, of 0 and of 10; the reading is p; the duty is done, for one use.
unfoldable pub seen : (action : ℕ) → List Line → List ℕ
seen action = reasoned action (0 ∷ 0 ∷ 1 ∷ 10 ∷ 1 ∷ 1 ∷ []) (0 ∷ 0 ∷ []) (2 ∷ []) (not_due each_use 11 ∷ [])

-- "0 says F to 1" is refined to "0 says p to 1" by "F implies p". What the agent says is by step 1, from row 0; the steps given begin at step 2, and the last of them proves the implication.
unfoldable pub refining_by : List Line → List Line
refining_by above = line 2 1 0 [] ∷ line 5 5 absent (0 ∷ []) ∷ above ++ line 4 6 absent ((1 + length above) ∷ 1 ∷ []) ∷ []

unfoldable pub refining : List Line → List ℕ
refining above = seen 7 (refining_by above)

-- F is supposed at step k, and "F implies p" is proved at step k + 2.
unfoldable pub tautology_at : ℕ → List Line
tautology_at k = line 0 4 0 [] ∷ line 7 2 absent (k ∷ []) ∷ line 9 8 0 ((k + 1) ∷ []) ∷ []

-- "0 says 1 to 1" is refined to "0 says 6 to 1" by "1 implies 6", for which "0 owns d0" is step 2, as given, and "0 says F to 1" is refined within.
unfoldable pub nested : Line → List ℕ
nested ownership =
    seen 21
    (line 2 1 0 [] ∷ line 5 19 absent (0 ∷ []) ∷ ownership ∷ line 5 5 absent (2 ∷ []) ∷ tautology_at 4
    ++ line 4 6 absent (6 ∷ 3 ∷ []) ∷ line 9 18 5 (7 ∷ []) ∷ line 4 20 absent (8 ∷ 1 ∷ []) ∷ [])

-- "F implies p" at step 3, from p as last night's reading.
unfoldable pub by_reading : List Line
by_reading = line 1 2 0 [] ∷ line 9 8 0 (2 ∷ []) ∷ []

unfoldable pub refining_cases : List DeskCase
refining_cases =
    -- by a tautology; what is refined rests on a row
    writes (refining (tautology_at 2)) (passed 0 1) (0 ∷ 902 ∷ 903 ∷ [])
    -- by a reading; with a label of mark 2 left open
    ∷ unchanged (refining by_reading) (refused 28 4)
    ∷ unchanged (refining (tautology_at 2 ++ line 11 13 3 (4 ∷ []) ∷ line 13 8 3 (5 ∷ []) ∷ [])) (refused 28 7)
    ∷ []

-- What builds these files, for an evaluation to unfold.
unfoldable pub built_steps : Unit {0}
unfolding built_table suppose_all following said taken stray_in two_strays shared_stray line laid reasoned seen refining_by refining tautology_at nested by_reading
built_steps = tt

pub misfit_claim : map computed misfit_cases ≡ map expected misfit_cases
unfolding built_steps misfit_cases
misfit_claim = refl

pub stray_claim : map computed stray_cases ≡ map expected stray_cases
unfolding built_steps stray_cases
stray_claim = refl

pub refining_claim : map computed refining_cases ≡ map expected refining_cases
unfolding built_steps refining_cases
refining_claim = refl
