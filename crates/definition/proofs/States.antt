-- The steps' checks in order: they hold just if each step's hold in the state that the steps before it leave. By induction on the steps left.
-- Assumes nothing.
use Prim.Native.Nat.{ℕ, zero, suc, ◌+◌, ◌≤◌, ◌<◌}
use mathlib.Core.Path.{◌≡◌}
use mathlib.Core.Logic.{⊎_elim}
use native.Mathlib.Nat.{eq-or-lt_of_le}
use native.Mathlib.Numerals.{add-one}
use native.Mathlib.Omega.{arith}
use Rattle.definition.proofs.CheckLaws.{both_hold, hold_both}
use Rattle.definition.specs.04-Checks.{AllHold}
use Rattle.definition.specs.17-Case.{Case}
use Rattle.definition.specs.22-Steps.{State, next, step_checks, checks_of_steps, state_at}

pub state_next : (c : Case) (k : ℕ) → state_at c (k + 1) ≡ next c k (state_at c k)
unfolding state_at
state_next c k = rw (add-one k)

-- no check of step k fails in the state s
abbrev pub Fine : Case → ℕ → State → Type 0
Fine c k s = AllHold (step_checks c k s)

-- the steps from i on, of which `left` are left
pub steps_fine :
    (c : Case) (left i : ℕ) → AllHold (checks_of_steps c left i (state_at c i)) →
    (k : ℕ) → i ≤ k → k < i + left → Fine c k (state_at c k)
unfolding checks_of_steps
steps_fine c zero i h k le lt = absurd (omega arith)
steps_fine c (suc left) i h k le lt =
    let b = both_hold (step_checks c i (state_at c i)) (checks_of_steps c left (i + 1) (next c i (state_at c i))) h in
    ⊎_elim (λ q. rw (← q) b.0) (λ l. steps_fine c left (i + 1) (rw (state_next c i) b.1) k (omega arith) (omega arith)) (eq-or-lt_of_le le)

pub fine_steps :
    (c : Case) (left i : ℕ) → ((k : ℕ) → i ≤ k → k < i + left → Fine c k (state_at c k)) →
    AllHold (checks_of_steps c left i (state_at c i))
unfolding checks_of_steps
fine_steps c zero i f = tt
fine_steps c (suc left) i f =
    hold_both (step_checks c i (state_at c i)) (checks_of_steps c left (i + 1) (next c i (state_at c i)))
    (f i (omega arith) (omega arith)) (rw (← state_next c i) (fine_steps c left (i + 1) (λ k le lt. f k (omega arith) (omega arith))))
