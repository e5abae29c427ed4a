-- What the code promises of a step: its answer, and every entry of its tables, after a refusal too.
use Rattle.std.specs.Prelude.{ℕ, Bool, cond, ◌≡◌, List, length, Result, Ok, Err}
use Rattle.definition.specs.04-Checks.{Checked, accepts, refuses, ◌>>◌, in_order}
use Rattle.definition.specs.17-Case.{Case, case_of}
use Rattle.definition.specs.22-Steps.{Rests, State, rests_in, used_in, premises_of, misshapen, together, next, step_checks, with_used}
use Rattle.tables.specs.Sets.{rests_meant, left_in, used_of}
use Rattle.tables.specs.declared.rests.Resting.{Resting}
use Rattle.words.specs.declared.runs.Refusal.{Refusal}
use Rattle.words.specs.Meanings.{check_number, run_meant}
use Rattle.step_shape.specs.TakenPremises.{takes}
use Rattle.steps.specs.WorkingTables.{state_of, Tables}

-- One value where a run accepts, and another where it refuses.
unfoldable pub by_run : {A : Type 0} → Checked (Unit {0}) → A → A → A
by_run (accepts x) a b = a
by_run (refuses n p) a b = b

-- What a refused step leaves behind: where check 12 lets it pass, the premises that check 13 took.
unfoldable pub touched : Case → ℕ → State → State
touched c k s =
    record {
      left = with_used s.left (cond (misshapen c k) (used_in s) (takes (used_in s) k (premises_of c k)));
      cited = s.cited;
      discharged = s.discharged;
    }

-- The state after step k, accepted or refused.
unfoldable pub after_step : Case → ℕ → State → State
after_step c k s = by_run (in_order (step_checks c k s)) (next c k s) (touched c k s)

-- The code's answer to a step: what its premises rest on together, or the check that refuses it.
unfoldable pub judged_meant : Result Resting Refusal → Checked Rests
judged_meant (Ok a) = accepts (rests_meant a)
judged_meant (Err r) = refuses (check_number r.check) r.place

-- The checks of step k, and what its premises rest on together.
unfoldable pub judged : Case → ℕ → State → Checked Rests
judged c k s = do
  in_order (step_checks c k s)
  accepts (together (rests_in s) (premises_of c k))

-- What its checks find of step k, and every entry of the table of steps. The rows cited have no part in it.
pub record JudgedAs (f : List ℕ) (k : ℕ) (l : List ℕ) (d : List Bool) (r : Result Resting Refusal) (l' : List ℕ) : Type 0 where
  pub long : length l' ≡ 2048
  pub is : (c : List Bool) → judged_meant r ≡ judged (case_of f) k (state_of l c d)
  pub left : left_in l' ≡ with_used (left_in l) (cond (misshapen (case_of f) k) (used_of l) (takes (used_of l) k (premises_of (case_of f) k)))

-- Step k from the state s: the first check that fails, and every entry of the tables.
pub record Stepped (f : List ℕ) (k : ℕ) (s : State) (r : Result (Unit {0}) Refusal) (l : List ℕ) (c d : List Bool) : Type 0 where
  pub tables : Tables l c d
  pub is : run_meant r ≡ in_order (step_checks (case_of f) k s)
  pub state : state_of l c d ≡ after_step (case_of f) k s
