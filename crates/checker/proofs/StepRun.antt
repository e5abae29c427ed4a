-- The steps in order: the whole run from the start is the run from the present step with the present tables. Assumes nothing.
use Prim.Native.Nat.{ℕ, zero, suc, ◌+◌, ◌-◌, ◌≤◌, ◌<◌}
use mathlib.Core.Path.{◌≡◌, sym, ap, ◌∙◌}
use mathlib.Core.Bool.{Bool}
use mathlib.Core.Logic.{⊎_elim}
use mathlib.Core.List.{List}
use native.Mathlib.Nat.{eq-or-lt_of_le, le_of_suc-le-suc}
use native.Mathlib.Omega.{arith}
use Rattle.definition.proofs.CheckLaws.{all_hold, hold_all, both_hold, skip_before, stop_before}
use Rattle.definition.proofs.States.{state_next}
use Rattle.definition.specs.04-Checks.{AllHold, accepts, refuses, in_order}
use Rattle.definition.specs.11-Layout.{step_part, count}
use Rattle.definition.specs.17-Case.{Case, case_of}
use Rattle.definition.specs.22-Steps.{State, next, step_checks, checks_of_steps, state_at}
use Rattle.rules.proofs.ShapedStepLaws.{formula_inside}
use Rattle.case_file.specs.LentCase.{Lent}
use Rattle.case_parts.specs.ShapedSteps.{EarlierNumbered}
use Rattle.steps.proofs.StepBranches.{no_fault}
use Rattle.steps.specs.StepAnswers.{by_run, after_step, Stepped}
use Rattle.steps.specs.WorkingTables.{state_of, Tables}
use Rattle.words.specs.Meanings.{run_meant}
use Rattle.std.specs.Prelude.{Ok, Err}
use Rattle.words.specs.declared.runs.Refusal.{Refusal}
use Rattle.checker.specs.StepRuns.{after_run, RunGives}

-- One step of a run, refused and accepted.
module _ (c : Case) (n k : ℕ) (s : State) (lt : k < n) where
  one : n - k ≡ suc (n - (k + 1))
  one = omega arith

  pub run_refused : (m p : ℕ) → refuses m p ≡ in_order (step_checks c k s) → (refuses m p ≡ in_order (checks_of_steps c (n - k) k s)) × (after_run c (n - k) k s ≡ after_step c k s)
  unfolding checks_of_steps after_run after_step by_run
  run_refused m p e = (rw one (stop_before (step_checks c k s) _ e), rw (one, ← e))

  pub run_accepted :
      accepts tt ≡ in_order (step_checks c k s) →
      (in_order (checks_of_steps c (n - k) k s) ≡ in_order (checks_of_steps c (n - (k + 1)) (k + 1) (next c k s))) × (after_run c (n - k) k s ≡ after_run c (n - (k + 1)) (k + 1) (next c k s))
  unfolding checks_of_steps after_run by_run
  run_accepted e = (rw one (skip_before (step_checks c k s) _ (all_hold (step_checks c k s) (sym e))), rw (one, ← e))

-- Where all steps are accepted, the state behind them is the definition's.
pub all_accepted : (c : Case) (left i : ℕ) → AllHold (checks_of_steps c left i (state_at c i)) → after_run c left i (state_at c i) ≡ state_at c (i + left)
unfolding checks_of_steps after_run by_run
all_accepted c zero i h = ap (state_at c) (omega arith)
all_accepted c (suc left) i h =
    let b = both_hold (step_checks c i (state_at c i)) (checks_of_steps c left (i + 1) (next c i (state_at c i))) h in
    rw (hold_all (step_checks c i (state_at c i)) b.0, ← state_next c i)
    (all_accepted c left (i + 1) (rw (state_next c i) b.1) ∙ ap (state_at c) (omega arith))

pub record Turn (s : List ℕ) (start : State) (n : ℕ) (l : List ℕ) (c d : List Bool) (k : ℕ) : Type 0 where
  pub all : n ≡ count s step_part
  pub passed : k ≤ n
  pub tables : Tables l c d
  pub earlier : EarlierNumbered s k
  pub run : in_order (checks_of_steps (case_of s) (case_of s).steps 0 start) ≡ in_order (checks_of_steps (case_of s) (n - k) k (state_of l c d))
  pub state : after_run (case_of s) (case_of s).steps 0 start ≡ after_run (case_of s) (n - k) k (state_of l c d)

pub turn_start : (s : List ℕ) (n : ℕ) (l : List ℕ) (c d : List Bool) → n ≡ count s step_part → Tables l c d → Turn s (state_of l c d) n l c d 0
unfolding case_of
turn_start s n l c d e t =
    let all : (case_of s).steps ≡ n - 0 = omega (arith, e) in
    record {
      all = e;
      passed = omega arith;
      tables = t;
      earlier = λ j lt. absurd (omega arith);
      run = ap (λ m. in_order (checks_of_steps (case_of s) m 0 (state_of l c d))) all;
      state = ap (λ m. after_run (case_of s) m 0 (state_of l c d)) all;
    }

module _ (s : List ℕ) (start : State) (n : ℕ) (l : List ℕ) (c d : List Bool) where
  module _ (k : ℕ) (t : Turn s start n l c d k) where
    pub turn_end : n ≤ k → RunGives s start (Ok tt) l c d
    unfolding run_meant checks_of_steps in_order after_run
    turn_end le =
        let z : n - k ≡ 0 = omega arith in
        record { tables = t.tables; is = sym (rw z at t.run); state = sym (rw z at t.state) }

    module _ (lt : k < n) (l' : List ℕ) (c' d' : List Bool) where
      pub turn_refused : (r : Refusal) → Stepped s k (state_of l c d) (Err r) l' c' d' → RunGives s start (Err r) l' c' d'
      unfolding run_meant
      turn_refused r g =
          let h = run_refused (case_of s) n k (state_of l c d) lt _ r.place g.is in
          record { tables = g.tables; is = h.0 ∙ sym t.run; state = g.state ∙ sym (t.state ∙ h.1) }

      pub turn_next : {b : List ℕ} → Lent s b → Stepped s k (state_of l c d) (Ok tt) l' c' d' → Turn s start n l' c' d' (k + 1)
      unfolding after_step by_run run_meant
      turn_next lent g =
          let h = run_accepted (case_of s) n k (state_of l c d) lt g.is in
          let after : state_of l' c' d' ≡ next (case_of s) k (state_of l c d) = rw (← g.is) at g.state in
          let fine = (no_fault (case_of s) k (state_of l c d) g.is).shaped in
          record {
            all = t.all;
            passed = omega arith;
            tables = g.tables;
            earlier = λ j below. ⊎_elim (λ q. rw q (formula_inside k lent fine)) (λ l. t.earlier j l) (eq-or-lt_of_le (le_of_suc-le-suc (let l : suc j ≤ suc k = omega arith in l)));
            run = t.run ∙ h.0 ∙ ap (λ w. in_order (checks_of_steps (case_of s) (n - (k + 1)) (k + 1) w)) (sym after);
            state = t.state ∙ h.1 ∙ ap (after_run (case_of s) (n - (k + 1)) (k + 1)) (sym after);
          }
