-- The tables of refusals of documents 01 and 02: the example of each row that is no desk case, and further ones for places, binders and limits, computed from the definition; the numbers of all checks in their order, and the ranges of terms.
use Rattle.std.specs.Prelude.{ℕ, ◌+◌, List, [], ◌∷◌, ◌++◌, map, ◌≡◌, refl, length, take, drop, replicate}
use Rattle.std.proofs.Math.Option.{none}
use Rattle.definition.specs.01-Words.{words, absent}
use Rattle.definition.specs.03-Lists.{join_all}
use Rattle.definition.specs.04-Checks.{number_of}
use Rattle.definition.specs.12-Terms.{agents, data_objects, object, parameter, variable, absent_term, no_term, class_of}
use Rattle.definition.specs.13-Formulas.{each_use}
use Rattle.definition.specs.17-Case.{Case}
use Rattle.definition.specs.18-Admission.{admission_checks}
use Rattle.definition.specs.19-Rewriting.{laid_out}
use Rattle.definition.specs.22-Steps.{State, step_checks}
use Rattle.definition.specs.31-Outcome.{passed, refused, owing_checks, end_checks, checks_if_owed}
use Rattle.definition.specs.51-Files.{audit_hour, not_due, file_of, formula_row, predicate_row, owns_row, says_row, and_row, implies_row, communicates_row, creates_row, user_action_row, step}
use Rattle.definition.specs.53-Desk.{DeskCase, computed, expected, unchanged, writes, grant_with, seen_by, owner_step, grant, built}

-- Grant with one byte changed, with other steps, and with further records.
unfoldable pub grant_byte : (at byte : ℕ) → List ℕ
grant_byte at byte = take at grant ++ byte ∷ drop (at + 1) grant

unfoldable pub grant_steps : (steps : List (List ℕ)) → (premises : List ℕ) → List ℕ
grant_steps steps premises = grant_with 0 4 0 0 steps premises

unfoldable pub grant_of : (formulas : List (List ℕ)) → (observers conditions : List ℕ) → (obligations : List (List ℕ)) → (labels : List ℕ) → (steps : List (List ℕ)) → (premises : List ℕ) → List ℕ
grant_of formulas observers conditions obligations labels steps premises =
    file_of
    (record {
      agent = 0;
      action = 4;
      hour = audit_hour;
      formulas = creates_row 0 16384 ∷ owns_row 0 16384 ∷ predicate_row 7 1 16384 absent ∷ says_row 0 2 1 ∷ communicates_row 0 2 1 ∷ formulas;
      rows = 0 ∷ 0 ∷ length observers ∷ [];
      observers = observers;
      conditions = conditions;
      obligations = obligations;
      labels = labels;
      steps = steps;
      premises = premises;
    })

unfoldable pub grant_and : (formulas : List (List ℕ)) → (observers conditions : List ℕ) → (obligations : List (List ℕ)) → (labels : List ℕ) → List ℕ
grant_and formulas observers conditions obligations labels = grant_of formulas observers conditions obligations labels (seen_by 0 ∷ owner_step ∷ []) (0 ∷ [])

-- A case that rests on supposed formulas: no log.
unfoldable pub supposing : (labels : List ℕ) → (action : ℕ) → (formulas steps : List (List ℕ)) → (premises : List ℕ) → List ℕ
supposing labels action formulas steps premises =
    file_of
    (record {
      agent = 0;
      action = action;
      hour = audit_hour;
      formulas = formulas;
      rows = [];
      observers = [];
      conditions = [];
      obligations = [];
      labels = labels;
      steps = steps;
      premises = premises;
    })

-- "Suppose p(32768), then for all by 32768": formula 1 is p of a variable, 2 is for all of it.
unfoldable pub supposed_parameter : List ℕ
supposed_parameter =
    supposing (0 ∷ 0 ∷ []) 3 (predicate_row 1 32768 absent absent ∷ predicate_row 1 40960 absent absent ∷ formula_row 4 0 1 absent absent ∷ user_action_row 7 0 absent absent ∷ [])
    (step 0 0 0 0 0 ∷ step 14 2 32768 0 1 ∷ []) (0 ∷ [])

-- "One step supposing what is owed".
unfoldable pub supposed_owed : List ℕ
supposed_owed = supposing (0 ∷ 0 ∷ []) 1 (predicate_row 7 0 absent absent ∷ user_action_row 7 0 absent absent ∷ []) (step 0 0 0 0 0 ∷ []) []

-- "Grant, premise 1".
unfoldable pub later_premise : List ℕ
later_premise = grant_steps (seen_by 0 ∷ owner_step ∷ []) (1 ∷ [])

unfoldable pub table_cases : List DeskCase
table_cases =
    -- 1: empty
    unchanged [] (refused 1 0)
    -- 2 to 4: first offset 37; row 0 code 1; row 0 again as 5
    ∷ unchanged (grant_byte 4 37) (refused 2 0)
    ∷ unchanged (grant_byte 39 1) (refused 3 0)
    ∷ unchanged (grant_and (creates_row 0 16384 ∷ []) (0 ∷ []) [] [] []) (refused 4 5)
    -- 5 to 9: observers 0, 0; condition 1; an obligation of mark 3; label mark 0, formula 0; action 1
    ∷ unchanged (grant_and [] (0 ∷ 0 ∷ []) [] [] []) (refused 5 0)
    ∷ unchanged (grant_and [] (0 ∷ []) (1 ∷ []) [] []) (refused 6 0)
    ∷ unchanged (grant_and [] (0 ∷ []) [] (not_due 3 0 ∷ []) []) (refused 7 0)
    ∷ unchanged (grant_and [] (0 ∷ []) [] [] (0 ∷ 0 ∷ [])) (refused 8 0)
    ∷ unchanged (grant_with 0 1 0 0 (seen_by 0 ∷ owner_step ∷ []) (0 ∷ [])) (refused 9 0)
    -- 12, 13, 18 and 19: first rule 16; premise 1; first formula 2; a supposed parameter
    ∷ unchanged (grant_steps (step 16 1 0 0 0 ∷ owner_step ∷ []) (0 ∷ [])) (refused 12 0)
    ∷ unchanged later_premise (refused 13 1)
    ∷ unchanged (grant_steps (step 2 2 0 0 0 ∷ owner_step ∷ []) (0 ∷ [])) (refused 18 0)
    ∷ unchanged supposed_parameter (refused 19 1)
    -- 20 and 21: seen step doubled; one step supposing what is owed
    ∷ unchanged (grant_steps (seen_by 0 ∷ seen_by 0 ∷ owner_step ∷ []) (0 ∷ [])) (refused 20 1)
    ∷ unchanged supposed_owed (refused 21 0)
    ∷ []

-- Some of these refusals at a later place, and the second half of check 13: a premise that the same step or an earlier one has used.
unfoldable pub place_cases : List DeskCase
place_cases =
    unchanged (grant_and [] (0 ∷ []) (absent ∷ 1 ∷ []) [] []) (refused 6 1)
    ∷ unchanged (grant_and [] (0 ∷ []) [] (not_due 1 0 ∷ not_due 3 0 ∷ []) []) (refused 7 1)
    ∷ unchanged (grant_and [] (0 ∷ []) [] [] (0 ∷ 1 ∷ 0 ∷ 0 ∷ [])) (refused 8 1)
    ∷ unchanged (grant_steps (seen_by 0 ∷ step 6 3 absent 0 2 ∷ []) (0 ∷ 0 ∷ [])) (refused 13 1)
    ∷ unchanged (supposing (0 ∷ 0 ∷ 0 ∷ 0 ∷ []) 1 (predicate_row 7 0 absent absent ∷ user_action_row 7 0 absent absent ∷ []) (step 0 0 1 0 0 ∷ []) []) (refused 21 1)
    ∷ unchanged (grant_steps (seen_by 0 ∷ owner_step ∷ step 4 3 absent 1 2 ∷ []) (0 ∷ 0 ∷ 1 ∷ [])) (refused 13 2)
    ∷ unchanged (grant_of (and_row 1 1 ∷ []) (0 ∷ []) [] [] [] (seen_by 0 ∷ seen_by 0 ∷ step 6 5 absent 0 2 ∷ []) (0 ∷ 1 ∷ [])) (refused 22 2)
    ∷ []

-- Two for-alls taken off one after the other: q(v1, v0) becomes q(5, v0) and then q(5, 6). The label's formula 4 is the whole, 8 is "4 implies 7", which refines "0 says 4 to 1".
-- The second term of formula 5 is given: v0, which the inner for-all binds, or another.
unfoldable pub two_binders : (second : ℕ) → List ℕ
two_binders second =
    file_of
    (record {
      agent = 0;
      action = 11;
      hour = audit_hour;
      formulas = creates_row 0 16384 ∷ owns_row 0 16384 ∷ predicate_row 7 40961 40960 16384 ∷ formula_row 4 0 2 absent absent ∷ formula_row 4 0 3 absent absent ∷ predicate_row 7 5 second 16384 ∷ formula_row 4 0 5 absent absent ∷ predicate_row 7 5 6 16384 ∷ implies_row 4 7 ∷ says_row 0 4 1 ∷ says_row 0 7 1 ∷ communicates_row 0 7 1 ∷ [];
      rows = 0 ∷ 0 ∷ 1 ∷ [];
      observers = 0 ∷ [];
      conditions = [];
      obligations = [];
      labels = 0 ∷ 4 ∷ [];
      steps = seen_by 0 ∷ step 5 9 absent 0 1 ∷ step 0 4 0 1 0 ∷ step 15 6 5 1 1 ∷ step 15 7 6 2 1 ∷ step 9 8 0 3 1 ∷ step 4 10 absent 4 2 ∷ [];
      premises = 0 ∷ 2 ∷ 3 ∷ 4 ∷ 5 ∷ 1 ∷ [];
    })

unfoldable pub binder_cases : List DeskCase
binder_cases =
    writes (two_binders 40960) (passed 0 1) (0 ∷ 902 ∷ 903 ∷ [])
    ∷ unchanged (two_binders 7) (refused 26 3)
    ∷ []

-- So many records of these two numbers.
unfoldable pub pairs_of : (count first second : ℕ) → List ℕ
pairs_of count first second = join_all (replicate count (first ∷ second ∷ []))

-- Only an observer: no part before it has a byte.
unfoldable pub observer_alone : List ℕ
observer_alone = laid_out 0 0 audit_hour ([] ∷ [] ∷ words (0 ∷ []) ∷ [] ∷ [] ∷ [] ∷ [] ∷ [] ∷ [])

-- What builds these files, for an evaluation to unfold.
unfoldable pub built_table : Unit {0}
unfolding built grant_byte grant_steps grant_of grant_and supposing supposed_parameter supposed_owed later_premise two_binders
built_table = tt

pub table_claim : map computed table_cases ≡ map expected table_cases
unfolding built_table table_cases
table_claim = refl

pub place_claim : map computed place_cases ≡ map expected place_cases
unfolding built_table place_cases
place_claim = refl

pub binder_claim : map computed binder_cases ≡ map expected binder_cases
unfolding built_table binder_cases
binder_claim = refl

-- "By number": the numbers of each group's checks, in its order. The second 14 is the one exception, for a struck row. Document 02 puts 27, 24, 25 and 26 before 18, 28 after 19, and 31 and 32 between 22 and 23.
pub admission_numbers : (s : List ℕ) → map number_of (admission_checks s) ≡ 1 ∷ 2 ∷ 3 ∷ 4 ∷ 5 ∷ 6 ∷ 7 ∷ 8 ∷ 9 ∷ []
unfolding built_table
admission_numbers s = refl

pub owing_numbers : (c : Case) → map number_of (owing_checks c) ≡ 10 ∷ 11 ∷ []
unfolding built_table
owing_numbers c = refl

pub step_numbers : (c : Case) (k : ℕ) (t : State) → map number_of (step_checks c k t) ≡ 12 ∷ 13 ∷ 14 ∷ 15 ∷ 16 ∷ 14 ∷ 17 ∷ 27 ∷ 24 ∷ 25 ∷ 26 ∷ 18 ∷ 19 ∷ 28 ∷ []
unfolding built_table
step_numbers c k t = refl

pub end_numbers : (c : Case) (t : State) (room : ℕ) → map number_of (end_checks c t room) ≡ 20 ∷ 21 ∷ 22 ∷ 31 ∷ 32 ∷ 23 ∷ []
unfolding built_table
end_numbers c t room = refl

pub numbers_without_steps : (c : Case) (room : ℕ) → map number_of (owing_checks c ++ checks_if_owed none c room) ≡ 10 ∷ 11 ∷ 31 ∷ 32 ∷ []
unfolding built_table
numbers_without_steps c room = refl

-- What the numbers at both ends of each range of terms are, and those beside them.
pub terms_classed :
    map class_of (0 ∷ 16383 ∷ 16384 ∷ 32767 ∷ 32768 ∷ 32799 ∷ 32800 ∷ 32831 ∷ 32832 ∷ 40959 ∷ 40960 ∷ 40967 ∷ 40968 ∷ 40975 ∷ 40976 ∷ 65534 ∷ 65535 ∷ [])
    ≡ object agents
    ∷ object agents
    ∷ object data_objects
    ∷ object data_objects
    ∷ parameter agents
    ∷ parameter agents
    ∷ parameter data_objects
    ∷ parameter data_objects
    ∷ no_term
    ∷ no_term
    ∷ variable agents 0
    ∷ variable agents 7
    ∷ variable data_objects 0
    ∷ variable data_objects 7
    ∷ no_term
    ∷ no_term
    ∷ absent_term
    ∷ []
unfolding built_table
terms_classed = refl

-- The small parts at their most records, and with one more: 64 conditions, 64 obligations, 32 labels.
unfoldable pub limit_cases : List DeskCase
limit_cases =
    writes (grant_and [] (0 ∷ []) (replicate 64 absent) [] []) (passed 0 1) (0 ∷ 902 ∷ 903 ∷ [])
    ∷ unchanged (grant_and [] (0 ∷ []) (replicate 65 absent) [] []) (refused 2 3)
    ∷ writes (grant_and [] (0 ∷ []) [] (replicate 64 (not_due each_use 0)) []) (passed 0 1) (0 ∷ 902 ∷ 903 ∷ [])
    ∷ unchanged (grant_and [] (0 ∷ []) [] (replicate 65 (not_due each_use 0)) []) (refused 2 4)
    ∷ writes (grant_and [] (0 ∷ []) [] [] (pairs_of 32 0 1)) (passed 0 1) (0 ∷ 902 ∷ 903 ∷ [])
    ∷ unchanged (grant_and [] (0 ∷ []) [] [] (pairs_of 33 0 1)) (refused 2 5)
    -- an observer without a log row
    ∷ unchanged observer_alone (refused 2 2)
    ∷ []

pub limit_claim : map computed limit_cases ≡ map expected limit_cases
unfolding built_table limit_cases pairs_of observer_alone
limit_claim = refl
