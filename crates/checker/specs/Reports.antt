-- What a verdict and a room report, after the last check, the end, the steps, and all that follows the admission: each with what is found where its checks hold.
use Rattle.std.specs.Prelude.{ℕ, ◌≡◌, List, Result}
use Rattle.definition.specs.04-Checks.{Checked, accepts, ◌>>◌, in_order}
use Rattle.definition.specs.17-Case.{Case}
use Rattle.definition.specs.22-Steps.{State}
use Rattle.definition.specs.23-Duties.{duty_checks}
use Rattle.definition.specs.31-Outcome.{Finding, justified, nothing_owed, discharged_list, cited_list, room_checks, end_checks, final_state, proof_checks, case_checks, found, report}
use Rattle.checker.specs.Meanings.{verdict_meant}
use Rattle.checker.specs.declared.verdict.Verdict.{Verdict}
use Rattle.words.specs.declared.runs.Refusal.{Refusal}

-- Check 23, the last one, and the two lists.
unfoldable pub listing : Case → State → ℕ → Checked Finding
listing c s room = do
  in_order (room_checks c s room)
  accepts (justified (discharged_list c s) (cited_list c s))

-- Checks 20 to 23, and the duties', of the state that the steps have left.
unfoldable pub concluding : Case → State → ℕ → Checked Finding
concluding c s room = do
  in_order (end_checks c s room)
  accepts (justified (discharged_list c s) (cited_list c s))

-- The checks of the steps, and those after them.
unfoldable pub proof : Case → ℕ → Checked Finding
proof c room = do
  in_order (proof_checks c room)
  accepts (justified (discharged_list c (final_state c)) (cited_list c (final_state c)))

-- Where nothing is owed and there are no steps: the checks of the duties.
unfoldable pub owing_nothing : Case → Checked Finding
owing_nothing c = do
  in_order (duty_checks c)
  accepts nothing_owed

-- Checks 10 and 11, and where a proof is owed those of its steps and after them.
unfoldable pub justifying : Case → ℕ → Checked Finding
justifying c room = do
  in_order (case_checks c room)
  accepts (found c)

-- The verdict and the room report what the checks have found.
pub record Reported (x : Checked Finding) (room : List ℕ) (r : Result Verdict Refusal) (after : List ℕ) : Type 0 where
  pub verdict : verdict_meant r ≡ (report x room).verdict
  pub room_is : after ≡ (report x room).room
