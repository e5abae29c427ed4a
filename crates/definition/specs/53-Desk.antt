-- The desk cases of document 01, and those of request 6 of document 02 built on them, computed from the definition: one list, one claim.
use Rattle.std.specs.Prelude.{ℕ, List, [], ◌∷◌, map, ◌≡◌, refl}
use Rattle.definition.specs.01-Words.{absent}
use Rattle.definition.specs.13-Formulas.{each_use, once}
use Rattle.definition.specs.31-Outcome.{Outcome, outcome, Verdict, passed, none_owed, refused}
use Rattle.definition.specs.51-Files.{audit_hour, not_due, file_of, predicate_row, owns_row, says_row, and_row, implies_row, after_row, communicates_row, creates_row, user_action_row, step}
use Rattle.definition.specs.52-Evaluation.{evaluated}

-- A file, the room lent with it, and the outcome due.
pub record DeskCase : Type 0 where
  pub file : List ℕ
  pub room : List ℕ
  pub gives : Outcome

unfoldable pub computed : DeskCase → Outcome
computed d = outcome d.file d.room

unfoldable pub expected : DeskCase → Outcome
expected d = d.gives

-- The room of the examples: three entries that no list would hold by chance.
abbrev pub lent : List ℕ
lent = 901 ∷ 902 ∷ 903 ∷ []

-- The file in that room: a verdict that changes no entry, and a pass with the entries afterwards.
unfoldable pub unchanged : List ℕ → Verdict → DeskCase
unchanged f v = record { file = f; room = lent; gives = record { verdict = v; room = lent } }

unfoldable pub writes : List ℕ → Verdict → List ℕ → DeskCase
writes f v after = record { file = f; room = lent; gives = record { verdict = v; room = after } }

-- Grant: "agent 0, action 4. Formulas: 0 creates(0, 16384); 1 0 owns 16384; 2 predicate code 7 (1, 16384); 3 0 says 2 to 1; 4 0 communicates 2 to 1.
-- Row 0: action 0, observer 0. Steps: 0 seen row 0, formula 1; 1 owner, formula 3, premise 0."
unfoldable pub grant_owing : (agent action row_action observer : ℕ) → (obligations steps : List (List ℕ)) → (premises : List ℕ) → List ℕ
grant_owing agent action row_action observer obligations steps premises =
    file_of
    (record {
      agent = agent;
      action = action;
      hour = audit_hour;
      formulas = creates_row 0 16384 ∷ owns_row 0 16384 ∷ predicate_row 7 1 16384 absent ∷ says_row 0 2 1 ∷ communicates_row 0 2 1 ∷ [];
      rows = row_action ∷ 0 ∷ 1 ∷ [];
      observers = observer ∷ [];
      conditions = [];
      obligations = obligations;
      labels = [];
      steps = steps;
      premises = premises;
    })

-- It has no obligations.
unfoldable pub grant_with : (agent action row_action observer : ℕ) → (steps : List (List ℕ)) → (premises : List ℕ) → List ℕ
grant_with agent action row_action observer steps premises = grant_owing agent action row_action observer [] steps premises

-- Its seen step, by an argument, and its owner step.
unfoldable pub seen_by : ℕ → List ℕ
seen_by row = step 2 1 row 0 0

unfoldable pub owner_step : List ℕ
owner_step = step 5 3 absent 0 1

unfoldable pub grant : List ℕ
grant = grant_with 0 4 0 0 (seen_by 0 ∷ owner_step ∷ []) (0 ∷ [])

-- Visit: "agent 1, action 5. Formulas 0 predicate 9 (16384); 1 predicate 7 (1, 16384); 2 0 implies 1; 3 0 communicates 2 to 1; 4 0 says 2 to 1;
-- 5 user action 7 (1, 16384). Row 0: action 3, observers 0, 1. Condition 0. Steps: seen 4; says 2; condition 0; rule 10 to 1."
unfoldable pub visit : (conditions : List ℕ) → List ℕ
visit conditions =
    file_of
    (record {
      agent = 1;
      action = 5;
      hour = audit_hour;
      formulas = predicate_row 9 16384 absent absent ∷ predicate_row 7 1 16384 absent ∷ implies_row 0 1 ∷ communicates_row 0 2 1 ∷ says_row 0 2 1 ∷ user_action_row 7 1 16384 absent ∷ [];
      rows = 3 ∷ 0 ∷ 2 ∷ [];
      observers = 0 ∷ 1 ∷ [];
      conditions = conditions;
      obligations = [];
      labels = [];
      steps = step 2 4 0 0 0 ∷ step 3 2 absent 0 1 ∷ step 1 0 0 1 0 ∷ step 10 1 absent 1 2 ∷ [];
      premises = 0 ∷ 1 ∷ 2 ∷ [];
    })

-- Twice: "Visit with formula 0 user action 3 (1), formula 2 kind 6, formula 6 "1 and 1", no conditions, one obligation (mark 1, action 0).
-- Steps: seen; says; rule 12 row 0; the same three again; and; left."
unfoldable pub twice_logged : (rows observers : List ℕ) → (mark : ℕ) → (obligations : List (List ℕ)) → (cited_at5 : ℕ) → List ℕ
twice_logged rows observers mark obligations cited_at5 =
    file_of
    (record {
      agent = 1;
      action = 5;
      hour = audit_hour;
      formulas = user_action_row 3 1 absent absent ∷ predicate_row 7 1 16384 absent ∷ after_row mark 0 1 ∷ communicates_row 0 2 1 ∷ says_row 0 2 1 ∷ user_action_row 7 1 16384 absent ∷ and_row 1 1 ∷ [];
      rows = 3 ∷ 0 ∷ 2 ∷ rows;
      observers = 0 ∷ 1 ∷ observers;
      conditions = [];
      obligations = obligations;
      labels = [];
      steps = step 2 4 0 0 0 ∷ step 3 2 absent 0 1 ∷ step 12 1 0 1 1 ∷ step 2 4 0 2 0 ∷ step 3 2 absent 2 1 ∷ step 12 1 cited_at5 3 1 ∷ step 6 6 absent 4 2 ∷ step 7 1 absent 6 1 ∷ [];
      premises = 0 ∷ 1 ∷ 3 ∷ 4 ∷ 2 ∷ 5 ∷ 6 ∷ [];
    })

-- It has no other row, and "the desk duties name no row and are not due".
unfoldable pub twice : (mark : ℕ) → (obligations : List (List ℕ)) → (cited_at5 : ℕ) → List ℕ
twice mark obligations cited_at5 = twice_logged [] [] mark obligations cited_at5

-- Twice with a row 1 of this action and observer, and obligations that row 1 may have done: action 0 by the hour before the audit, with the mark and the row named.
unfoldable pub due_before : (mark row : ℕ) → List ℕ
due_before mark row = mark ∷ 0 ∷ 49 ∷ row ∷ []

unfoldable pub twice_due : (row_action observer mark : ℕ) → (obligations : List (List ℕ)) → (cited_at5 : ℕ) → List ℕ
twice_due row_action observer mark obligations cited_at5 = twice_logged (row_action ∷ 2 ∷ 1 ∷ []) (observer ∷ []) mark obligations cited_at5

unfoldable pub desk_cases : List DeskCase
desk_cases =
    writes grant (passed 0 1) (0 ∷ 902 ∷ 903 ∷ [])
    -- rows 10, 11, 14, 15, 16 and 22 of the table
    ∷ unchanged (grant_with 0 4 0 0 [] []) (refused 10 0)
    ∷ unchanged (grant_with 1 4 0 0 (seen_by 0 ∷ owner_step ∷ []) (0 ∷ [])) (refused 11 0)
    ∷ unchanged (grant_with 0 4 0 0 (seen_by absent ∷ owner_step ∷ []) (0 ∷ [])) (refused 14 0)
    ∷ unchanged (grant_with 0 4 0 0 (seen_by 1 ∷ owner_step ∷ []) (0 ∷ [])) (refused 15 0)
    ∷ unchanged (grant_with 0 4 0 1 (seen_by 0 ∷ owner_step ∷ []) (0 ∷ [])) (refused 16 0)
    ∷ unchanged (grant_with 0 4 0 0 (seen_by 0 ∷ []) []) (refused 22 0)
    -- row 23: room 0
    ∷ record { file = grant; room = []; gives = record { verdict = refused 23 1; room = [] } }
    -- Creator: Grant, action 0, no steps, no premises
    ∷ unchanged (grant_with 0 0 0 0 [] []) none_owed
    -- Visit; its condition absent; no conditions
    ∷ writes (visit (0 ∷ [])) (passed 0 1) (0 ∷ 902 ∷ 903 ∷ [])
    ∷ unchanged (visit (absent ∷ [])) (refused 14 2)
    ∷ unchanged (visit []) (refused 15 2)
    -- Twice; a second such obligation cited at step 5; kind 7 and mark 2
    ∷ unchanged (twice each_use (not_due each_use 0 ∷ []) 0) (refused 17 5)
    ∷ writes (twice each_use (not_due each_use 0 ∷ not_due each_use 0 ∷ []) 1) (passed 2 1) (0 ∷ 1 ∷ 0 ∷ [])
    ∷ writes (twice once (not_due once 0 ∷ []) 0) (passed 1 1) (0 ∷ 0 ∷ 903 ∷ [])
    -- an expired duty names a seen row with its action; no row; a struck row; an unseen row
    ∷ writes (twice_due 0 1 once (due_before once 1 ∷ []) 0) (passed 1 1) (0 ∷ 0 ∷ 903 ∷ [])
    ∷ unchanged (twice_due 0 1 once (due_before once absent ∷ []) 0) (refused 31 0)
    ∷ unchanged (twice_due absent 1 once (due_before once 1 ∷ []) 0) (refused 31 0)
    ∷ unchanged (twice_due 0 0 once (due_before once 1 ∷ []) 0) (refused 31 0)
    -- two each-use duties on one row
    ∷ unchanged (twice_due 0 1 each_use (due_before each_use 1 ∷ due_before each_use 1 ∷ []) 1) (refused 32 1)
    -- nothing owed: Creator with a duty not done, and done
    ∷ unchanged (grant_owing 0 0 0 0 (due_before once absent ∷ []) [] []) (refused 31 0)
    ∷ unchanged (grant_owing 0 0 0 0 (due_before once 0 ∷ []) [] []) none_owed
    ∷ []

-- What builds the files, for an evaluation to unfold.
unfoldable pub built : List DeskCase → List Outcome
unfolding evaluated computed expected unchanged writes grant_owing grant_with seen_by owner_step grant visit twice_logged twice due_before twice_due
built ds = map computed ds

-- Each desk case has the outcome due, verdict and room.
pub desk_claim : map computed desk_cases ≡ map expected desk_cases
unfolding built desk_cases
desk_claim = refl
