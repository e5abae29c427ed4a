-- The steps in order, as the code takes them.
use Rattle.std.specs.Prelude.{ℕ, zero, suc, ◌+◌, Bool, ◌≡◌, List, Result}
use Rattle.definition.specs.04-Checks.{in_order}
use Rattle.definition.specs.17-Case.{Case, case_of}
use Rattle.definition.specs.22-Steps.{State, next, step_checks, checks_of_steps}
use Rattle.words.specs.Meanings.{run_meant}
use Rattle.words.specs.declared.runs.Refusal.{Refusal}
use Rattle.steps.specs.StepAnswers.{by_run, touched}
use Rattle.steps.specs.WorkingTables.{state_of, Tables}

-- The state after the steps from k on, `left` of them, or up to the first that is refused.
unfoldable pub after_run : Case → (left k : ℕ) → State → State
after_run c zero k s = s
after_run c (suc left) k s = by_run (in_order (step_checks c k s)) (after_run c left (k + 1) (next c k s)) (touched c k s)

-- The steps from the state s: the first check that fails, and every entry of the tables.
pub record RunGives (f : List ℕ) (s : State) (r : Result (Unit {0}) Refusal) (l : List ℕ) (c d : List Bool) : Type 0 where
  pub tables : Tables l c d
  pub is : run_meant r ≡ in_order (checks_of_steps (case_of f) (case_of f).steps 0 s)
  pub state : state_of l c d ≡ after_run (case_of f) (case_of f).steps 0 s
