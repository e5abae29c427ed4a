-- Request 6 on examples, computed from the definition: due hours and rows named, checks 7, 9, 31 and 32, their order, and files of the layout before; a claim for each list.
use Rattle.std.specs.Prelude.{ℕ, List, [], ◌∷◌, ◌++◌, map, ◌≡◌, refl, take, drop, replicate}
use Rattle.std.proofs.Math.Option.{none, some}
use Rattle.definition.specs.01-Words.{words, absent}
use Rattle.definition.specs.02-Ranges.{listed}
use Rattle.definition.specs.04-Checks.{accepts}
use Rattle.definition.specs.13-Formulas.{creates, each_use, once}
use Rattle.definition.specs.15-Records.{log_of}
use Rattle.definition.specs.17-Case.{case_of}
use Rattle.definition.specs.19-Rewriting.{laid_out, with_number, strike}
use Rattle.definition.specs.31-Outcome.{Verdict, passed, none_owed, refused}
use Rattle.definition.specs.35-Index.{index_of, building, outcome_through}
use Rattle.definition.specs.46-Requests.{outcome_without, evaluated_requests}
use Rattle.definition.specs.49-Duties.{is_duty_number}
use Rattle.definition.specs.51-Files.{audit_hour, file_of, predicate_row, owns_row, says_row, communicates_row, creates_row, step}
use Rattle.definition.specs.53-Desk.{DeskCase, lent, computed, expected, unchanged, writes, seen_by, owner_step, grant, built}

-- The numbers of one obligation.
unfoldable pub duty : (mark action due row : ℕ) → List ℕ
duty mark action due row = mark ∷ action ∷ due ∷ row ∷ []

-- Grant's book with formula 5, creates(0, 16385). Row 0 is seen; row 1 is seen and struck; row 2 is unseen, its action is given; row 3 is seen and of formula 5; row 4 is seen.
unfoldable pub owing : (agent action hour unseen : ℕ) → (obligations : List (List ℕ)) → (labels : List ℕ) → (steps : List (List ℕ)) → (premises : List ℕ) → List ℕ
owing agent action hour unseen obligations labels steps premises =
    file_of
    (record {
      agent = agent;
      action = action;
      hour = hour;
      formulas = creates_row 0 16384 ∷ owns_row 0 16384 ∷ predicate_row 7 1 16384 absent ∷ says_row 0 2 1 ∷ communicates_row 0 2 1 ∷ creates_row 0 16385 ∷ [];
      rows = 0 ∷ 0 ∷ 1 ∷ absent ∷ 1 ∷ 1 ∷ unseen ∷ 2 ∷ 1 ∷ 5 ∷ 3 ∷ 1 ∷ 0 ∷ 4 ∷ 2 ∷ [];
      observers = 0 ∷ 0 ∷ 1 ∷ 0 ∷ 0 ∷ 1 ∷ [];
      conditions = [];
      obligations = obligations;
      labels = labels;
      steps = steps;
      premises = premises;
    })

-- Creator, and Grant, with that log and these obligations.
unfoldable pub idle : (hour : ℕ) → (obligations : List (List ℕ)) → List ℕ
idle hour obligations = owing 0 0 hour 0 obligations [] [] []

unfoldable pub granting : (obligations : List (List ℕ)) → List ℕ
granting obligations = owing 0 4 audit_hour 0 obligations [] (seen_by 0 ∷ owner_step ∷ []) (0 ∷ [])

-- A duty not done, and one deed for two uses.
unfoldable pub undone_duty : List (List ℕ)
undone_duty = duty once 0 49 absent ∷ []

unfoldable pub one_row_twice : List (List ℕ)
one_row_twice = duty each_use 0 60 0 ∷ duty each_use 0 60 0 ∷ []

-- The file in a room of no entries.
unfoldable pub in_no_room : List ℕ → Verdict → DeskCase
in_no_room f v = record { file = f; room = []; gives = record { verdict = v; room = [] } }

unfoldable pub due_cases : List DeskCase
due_cases =
    -- expired: due before the audit hour, of either mark, however long before; at it and after it not
    unchanged (idle 50 (duty each_use 0 49 absent ∷ [])) (refused 31 0)
    ∷ unchanged (idle 50 (duty once 0 0 absent ∷ [])) (refused 31 0)
    ∷ unchanged (idle 50 (duty once 0 50 absent ∷ [])) none_owed
    ∷ unchanged (idle 50 (duty once 0 51 absent ∷ [])) none_owed
    ∷ unchanged (idle 50 (duty once 0 65534 absent ∷ [])) none_owed
    ∷ unchanged (idle 0 (duty once 0 0 absent ∷ [])) none_owed
    ∷ unchanged (idle 65534 (duty once 0 65533 absent ∷ [])) (refused 31 0)
    -- both bytes of both hours count
    ∷ unchanged (idle 300 (duty once 0 299 absent ∷ [])) (refused 31 0)
    ∷ unchanged (idle 300 (duty once 0 50 absent ∷ [])) (refused 31 0)
    ∷ unchanged (idle 300 (duty once 0 300 absent ∷ [])) none_owed
    ∷ unchanged (idle 50 (duty once 0 300 absent ∷ [])) none_owed
    -- done: the first and the last row; not by a struck row, an unseen one, one of another action
    ∷ unchanged (idle 50 (duty each_use 0 49 0 ∷ duty once 0 49 4 ∷ duty once 5 49 3 ∷ [])) none_owed
    ∷ unchanged (idle 50 (duty once 0 49 1 ∷ [])) (refused 31 0)
    ∷ unchanged (idle 50 (duty once 0 49 2 ∷ [])) (refused 31 0)
    ∷ unchanged (idle 50 (duty once 0 49 3 ∷ [])) (refused 31 0)
    -- the lowest: each by its own hour and row
    ∷ unchanged (idle 50 (duty once 0 60 absent ∷ duty once 0 49 absent ∷ [])) (refused 31 1)
    ∷ unchanged (idle 50 (duty once 0 49 0 ∷ duty once 0 49 absent ∷ duty once 0 48 absent ∷ [])) (refused 31 1)
    ∷ []

unfoldable pub again_cases : List DeskCase
again_cases =
    -- expired or not; seen or not, struck or not, whatever the action
    unchanged (idle 50 one_row_twice) (refused 32 1)
    ∷ unchanged (idle 50 (duty each_use 0 49 0 ∷ duty each_use 0 60 0 ∷ [])) (refused 32 1)
    ∷ unchanged (idle 50 (duty each_use 0 60 0 ∷ duty each_use 0 49 0 ∷ [])) (refused 32 1)
    ∷ unchanged (idle 50 (duty each_use 0 60 1 ∷ duty each_use 0 60 1 ∷ [])) (refused 32 1)
    ∷ unchanged (idle 50 (duty each_use 0 60 2 ∷ duty each_use 0 60 2 ∷ [])) (refused 32 1)
    ∷ unchanged (idle 50 (duty each_use 0 60 3 ∷ duty each_use 5 60 3 ∷ [])) (refused 32 1)
    -- marks are not mixed, and once duties share a row; no row is no common row
    ∷ unchanged (idle 50 (duty each_use 0 60 0 ∷ duty once 0 60 0 ∷ [])) none_owed
    ∷ unchanged (idle 50 (duty once 0 60 0 ∷ duty each_use 0 60 0 ∷ [])) none_owed
    ∷ unchanged (idle 50 (duty once 0 49 0 ∷ duty once 0 49 0 ∷ [])) none_owed
    ∷ unchanged (idle 50 (duty each_use 0 60 absent ∷ duty each_use 0 60 absent ∷ [])) none_owed
    -- with others between; the lowest of two
    ∷ unchanged (idle 50 (duty each_use 0 60 0 ∷ duty once 0 60 0 ∷ duty each_use 0 60 4 ∷ duty each_use 0 60 0 ∷ duty each_use 0 60 4 ∷ [])) (refused 32 3)
    ∷ []

unfoldable pub order_cases : List DeskCase
order_cases =
    -- 31 of all before 32 of all; both before 23, cited or not
    unchanged (idle 50 (one_row_twice ++ undone_duty)) (refused 31 2)
    ∷ unchanged (granting (one_row_twice ++ undone_duty)) (refused 31 2)
    ∷ unchanged (granting undone_duty) (refused 31 0)
    ∷ unchanged (granting one_row_twice) (refused 32 1)
    ∷ in_no_room (granting undone_duty) (refused 31 0)
    ∷ in_no_room (granting one_row_twice) (refused 32 1)
    ∷ in_no_room (granting (duty once 0 49 4 ∷ [])) (refused 23 1)
    -- what an obligation names is not cited
    ∷ writes (granting (duty each_use 0 49 4 ∷ [])) (passed 0 1) (0 ∷ 902 ∷ 903 ∷ [])
    -- 10, 11, a step's, 20, 21 and 22 come before them
    ∷ unchanged (owing 0 4 50 0 undone_duty [] [] []) (refused 10 0)
    ∷ unchanged (owing 1 4 50 0 undone_duty [] (seen_by 0 ∷ owner_step ∷ []) (0 ∷ [])) (refused 11 0)
    ∷ unchanged (owing 0 4 50 0 undone_duty [] (seen_by 2 ∷ owner_step ∷ []) (0 ∷ [])) (refused 16 0)
    ∷ unchanged (owing 0 4 50 0 undone_duty [] (seen_by 0 ∷ seen_by 0 ∷ owner_step ∷ []) (0 ∷ [])) (refused 20 1)
    ∷ unchanged (owing 0 4 50 0 undone_duty (0 ∷ 1 ∷ []) (step 0 1 0 0 0 ∷ owner_step ∷ []) (0 ∷ [])) (refused 21 0)
    ∷ unchanged (owing 0 4 50 0 undone_duty [] (seen_by 0 ∷ []) []) (refused 22 0)
    ∷ []

unfoldable pub bad_duties : List DeskCase
bad_duties =
    -- 7: due hour absent, row beyond the log, of either mark, expired or not, first or later
    unchanged (idle 50 (duty each_use 0 absent 0 ∷ [])) (refused 7 0)
    ∷ unchanged (idle 50 (duty once 0 60 absent ∷ duty once 0 absent absent ∷ [])) (refused 7 1)
    ∷ unchanged (idle 50 (duty each_use 0 60 5 ∷ [])) (refused 7 0)
    ∷ unchanged (idle 50 (duty once 0 49 0 ∷ duty once 0 60 5 ∷ [])) (refused 7 1)
    ∷ unchanged (idle 50 (duty once 0 49 65534 ∷ [])) (refused 7 0)
    -- 9: the audit hour absent, also without obligations; 7 comes before
    ∷ unchanged (idle absent []) (refused 9 0)
    ∷ unchanged (idle absent (duty once 0 49 0 ∷ [])) (refused 9 0)
    ∷ unchanged (idle absent (duty once 0 absent 0 ∷ [])) (refused 7 0)
    ∷ []

-- The row that the agent does not see shows in nothing: the duty's action, another, or struck out.
unfoldable pub unseen_named : (unseen : ℕ) → List DeskCase
unseen_named unseen =
    unchanged (owing 0 0 50 unseen (duty once 0 49 2 ∷ []) [] [] []) (refused 31 0)
    ∷ unchanged (owing 0 0 50 unseen (duty once 0 60 2 ∷ []) [] [] []) none_owed
    ∷ unchanged (owing 0 0 50 unseen (duty each_use 0 60 2 ∷ duty each_use 0 60 2 ∷ []) [] [] []) (refused 32 1)
    ∷ []

-- Creator without a log, and these bytes as its obligations.
unfoldable pub duty_bytes : List ℕ → List ℕ
duty_bytes bytes = laid_out 0 0 audit_hour (creates_row 0 16384 ∷ [] ∷ [] ∷ [] ∷ bytes ∷ [] ∷ [] ∷ [] ∷ [])

-- Grant as it was laid out before: no audit hour, the first part at 36.
unfoldable pub old_grant : List ℕ
old_grant = words (0 ∷ 4 ∷ 36 ∷ 40 ∷ 76 ∷ 6 ∷ 82 ∷ 2 ∷ 84 ∷ 0 ∷ 84 ∷ 0 ∷ 84 ∷ 0 ∷ 84 ∷ 20 ∷ 104 ∷ 2 ∷ []) ++ drop 38 grant

unfoldable pub layout_cases : List DeskCase
layout_cases =
    unchanged old_grant (refused 2 0)
    ∷ unchanged (take 4 grant ++ 36 ∷ drop 5 grant) (refused 2 0)
    ∷ unchanged (take 4 grant ++ 40 ∷ drop 5 grant) (refused 2 0)
    ∷ unchanged (duty_bytes (words (duty once 0 60 absent))) none_owed
    -- a record of four bytes, one and a half, and a byte more or less
    ∷ unchanged (duty_bytes (words (1 ∷ 0 ∷ []))) (refused 2 4)
    ∷ unchanged (duty_bytes (words (1 ∷ 0 ∷ 60 ∷ 0 ∷ 1 ∷ 0 ∷ []))) (refused 2 4)
    ∷ unchanged (duty_bytes (take 7 (words (duty once 0 60 absent)))) (refused 2 4)
    ∷ unchanged (duty_bytes (words (duty once 0 60 absent) ++ 0 ∷ [])) (refused 2 4)
    -- the largest file, and a byte more
    ∷ unchanged (replicate 47910 0) (refused 2 0)
    ∷ unchanged (replicate 47911 0) (refused 1 0)
    ∷ []

-- What builds these files, for an evaluation to unfold.
unfoldable pub built_dues : Unit {0}
unfolding built duty owing idle granting undone_duty one_row_twice in_no_room unseen_named duty_bytes old_grant
built_dues = tt

pub due_claim : map computed due_cases ≡ map expected due_cases
unfolding built_dues due_cases
due_claim = refl

pub again_claim : map computed again_cases ≡ map expected again_cases
unfolding built_dues again_cases
again_claim = refl

pub order_claim : map computed order_cases ≡ map expected order_cases
unfolding built_dues order_cases
order_claim = refl

pub bad_claim : map computed bad_duties ≡ map expected bad_duties
unfolding built_dues bad_duties
bad_claim = refl

pub unseen_claim : map (λ a. map computed (unseen_named a)) (0 ∷ 5 ∷ absent ∷ []) ≡ map (λ a. map expected (unseen_named a)) (0 ∷ 5 ∷ absent ∷ [])
unfolding built_dues
unseen_claim = refl

pub layout_claim : map computed layout_cases ≡ map expected layout_cases
unfolding built_dues layout_cases
layout_claim = refl

-- How the obligations and the hour are read, two bytes each.
pub duties_read :
    listed (case_of (idle 300 (duty each_use 0 299 4 ∷ duty once 5 513 absent ∷ []))).obligation 2 0
    ≡ record { mark = 1; formula = creates 0 16384; due = 299; row = some 4 } ∷ record { mark = 2; formula = creates 0 16385; due = 513; row = none } ∷ []
unfolding built_dues
duties_read = refl

pub hour_read : ((case_of (idle 300 [])).hour ≡ 300) × ((case_of (idle 300 (undone_duty ++ undone_duty ++ undone_duty))).obligations ≡ 3)
unfolding built_dues
hour_read = (refl, refl)

-- The hour as a number of the header; it stays where unseen rows are struck out.
pub hour_put : with_number (idle 50 undone_duty) 18 513 ≡ idle 513 undone_duty
unfolding built_dues
hour_put = refl

pub hour_kept : strike (idle 513 undone_duty) ≡ owing 0 0 513 absent undone_duty [] [] []
unfolding built_dues
hour_kept = refl

-- An index is built whatever the obligations and the hour are; a check through it has 31 and 32 where the other has, and 30 before.
unfoldable pub idle_index : List ℕ
idle_index = index_of (log_of (idle 50 []))

pub built_anyway : building (idle absent (duty 3 9 absent 9 ∷ [])) (replicate 13 7) ≡ record { answer = accepts 13; room = 2 ∷ 0 ∷ 7 ∷ 4 ∷ 1 ∷ 11 ∷ 2 ∷ 0 ∷ 1 ∷ 3 ∷ 4 ∷ 2 ∷ 4 ∷ [] }
unfolding built_dues
built_anyway = refl

pub through_duties :
    map (λ f. (outcome_through f idle_index lent).verdict) (idle 50 undone_duty ∷ idle 50 one_row_twice ∷ granting undone_duty ∷ granting one_row_twice ∷ granting (duty once 0 49 4 ∷ []) ∷ idle 50 (duty once 0 49 4 ∷ []) ∷ idle absent undone_duty ∷ [])
    ≡ refused 31 0 ∷ refused 32 1 ∷ refused 31 0 ∷ refused 32 1 ∷ passed 0 1 ∷ none_owed ∷ refused 9 0 ∷ []
unfolding built_dues idle_index
through_duties = refl

pub through_first : map (λ f. (outcome_through f [] lent).verdict) (idle 50 undone_duty ∷ granting one_row_twice ∷ []) ≡ refused 30 0 ∷ refused 30 0 ∷ []
unfolding built_dues
through_first = refl

-- As it was before the request, by the checks without the two: a duty not done, and one deed for two uses.
pub before_due_claim :
    map (λ s. (outcome_without is_duty_number s lent).verdict) (granting undone_duty ∷ granting one_row_twice ∷ idle 50 undone_duty ∷ idle 50 one_row_twice ∷ [])
    ≡ passed 0 1 ∷ passed 0 1 ∷ none_owed ∷ none_owed ∷ []
unfolding built_dues evaluated_requests is_duty_number
before_due_claim = refl
