-- The outcome of a case: the verdict, and the room afterwards. `all_checks` has the order of all groups of checks; each group lists its own where its tests are.
use Rattle.std.specs.Prelude.{ℕ, ◌+◌, ◌-◌, Bool, true, false, not, ◌&&◌, List, [], ◌∷◌, ◌++◌, length, drop, ltb}
use Rattle.std.proofs.Math.Option.{Option, none, some}
use Rattle.definition.specs.02-Ranges.{members}
use Rattle.definition.specs.04-Checks.{Check, single, each, Checked, accepts, refuses, ◌>>◌, in_order}
use Rattle.definition.specs.13-Formulas.{Formula}
use Rattle.definition.specs.17-Case.{Case, case_of}
use Rattle.definition.specs.18-Admission.{admission_checks}
use Rattle.definition.specs.21-Rules.{is_that, owed}
use Rattle.definition.specs.22-Steps.{State, opens_in, used_in, start_state, checks_of_steps, state_at}
use Rattle.definition.specs.23-Duties.{duty_checks}

-- "Passed (count of obligations, count of rows; ..)", "None owed", "Refused (number, place)".
pub data Verdict : Type 0 where
  passed : (obligations rows : ℕ) → Verdict
  none_owed : Verdict
  refused : (number place : ℕ) → Verdict

pub record Outcome : Type 0 where
  pub verdict : Verdict
  pub room : List ℕ

-- What the checks come to where none fails: the obligations discharged and the log rows cited, or that nothing is owed.
pub data Finding : Type 0 where
  justified : (obligations rows : List ℕ) → Finding
  nothing_owed : Finding

unfoldable pub owes : Case → Option Formula
owes c = owed c.agent c.action

unfoldable pub is_owed : Option Formula → Bool
is_owed none = false
is_owed (some f) = true

unfoldable pub has_steps : Case → Bool
has_steps c = ltb 0 c.steps

-- Check 10: "owed, no steps", place 0.
unfoldable pub no_proof : Case → Bool
no_proof c = is_owed (owes c) && not (has_steps c)

-- Check 11: "steps, none owed", place 0.
unfoldable pub needless_proof : Case → Bool
needless_proof c = not (is_owed (owes c)) && has_steps c

unfoldable pub last_step : Case → ℕ
last_step c = c.steps - 1

-- Check 20: "a step before the last is no premise", place: the lowest.
unfoldable pub unused_step : State → ℕ → Bool
unused_step s k = not (used_in s k)

-- Check 21: "label open at the end", place: the lowest label.
unfoldable pub open_label : Case → State → ℕ → Bool
open_label c s l = opens_in s (last_step c) l

-- Check 22: "last formula not what is owed", place: last step.
unfoldable pub wrong_end : Case → Bool
wrong_end c = not (is_that (c.step (last_step c)).formula (owes c))

-- The obligations discharged and the log rows cited, each once, ascending.
unfoldable pub discharged_list : Case → State → List ℕ
discharged_list c s = members s.discharged c.obligations 0

unfoldable pub cited_list : Case → State → List ℕ
cited_list c s = members s.cited c.rows 0

unfoldable pub needed : Case → State → ℕ
needed c s = length (discharged_list c s) + length (cited_list c s)

-- Check 23: "room too short", place: entries needed.
unfoldable pub short_room : Case → State → ℕ → Bool
short_room c s room = ltb room (needed c s)

-- Checks 10 and 11.
unfoldable pub owing_checks : Case → List Check
owing_checks c = single 10 0 (no_proof c) ∷ single 11 0 (needless_proof c) ∷ []

-- Checks 20 to 22, of the state that the steps have left.
unfoldable pub closing_checks : Case → State → List Check
closing_checks c s =
    each 20 (last_step c) (unused_step s)
    ∷ each 21 c.labels (open_label c s)
    ∷ single 22 (last_step c) (wrong_end c)
    ∷ []

-- Check 23.
unfoldable pub room_checks : Case → State → (room : ℕ) → List Check
room_checks c s room = single 23 (needed c s) (short_room c s room) ∷ []

-- Checks 20 to 23, with 31 and 32 "between 22 and 23".
unfoldable pub end_checks : Case → State → (room : ℕ) → List Check
end_checks c s room = closing_checks c s ++ duty_checks c ++ room_checks c s room

-- The state that all steps leave.
unfoldable pub final_state : Case → State
final_state c = state_at c c.steps

-- "Then steps in order, each through 12 to 19 by number; then 20 to 23." `step_checks` has what document 02 put in.
unfoldable pub proof_checks : Case → (room : ℕ) → List Check
proof_checks c room = checks_of_steps c c.steps 0 start_state ++ end_checks c (final_state c) room

-- Where nothing is owed, 31 and 32 are "directly before "none owed"".
unfoldable pub checks_if_owed : Option Formula → Case → (room : ℕ) → List Check
checks_if_owed none c room = duty_checks c
checks_if_owed (some f) c room = proof_checks c room

-- What follows the admission.
unfoldable pub case_checks : Case → (room : ℕ) → List Check
case_checks c room = owing_checks c ++ checks_if_owed (owes c) c room

-- All checks of the file s with a room of so many entries. "Order: 1 to 11 by number, lowest place first; then steps in order, each through 12 to 19 by number; then 20 to 23." Checks that document 02 adds stand in their groups.
unfoldable pub all_checks : List ℕ → (room : ℕ) → List Check
all_checks s room = admission_checks s ++ case_checks (case_of s) room

-- What is found where all checks hold.
unfoldable pub found_if_owed : Option Formula → Case → Finding
found_if_owed none c = nothing_owed
found_if_owed (some f) c = justified (discharged_list c (final_state c)) (cited_list c (final_state c))

unfoldable pub found : Case → Finding
found c = found_if_owed (owes c) c

unfoldable pub finding : List ℕ → (room : ℕ) → Checked Finding
finding s room = do
  in_order (all_checks s room)
  accepts (found (case_of s))

-- "The room's first entries hold the obligations, the part after them the log rows, later entries unchanged." Otherwise "room unchanged".
unfoldable pub report : Checked Finding → List ℕ → Outcome
report (accepts (justified ds rs)) room = record { verdict = passed (length ds) (length rs); room = ds ++ rs ++ drop (length ds + length rs) room }
report (accepts nothing_owed) room = record { verdict = none_owed; room = room }
report (refuses n p) room = record { verdict = refused n p; room = room }

-- What the file's bytes and the room's entries come to: the right verdict, and what the room then holds.
unfoldable pub outcome : List ℕ → List ℕ → Outcome
outcome s room = report (finding s (length room)) room

-- What an evaluation unfolds of this file.
unfoldable pub evaluated_outcome : Unit {0}
unfolding owes is_owed has_steps no_proof needless_proof last_step unused_step open_label wrong_end discharged_list cited_list needed short_room owing_checks closing_checks room_checks end_checks final_state proof_checks checks_if_owed case_checks all_checks found_if_owed found finding report outcome
evaluated_outcome = tt
