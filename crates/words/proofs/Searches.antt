-- A loop that looks for the first of the numbers below n at which a test p holds: what it has passed, and what it finds. Assumes nothing.
use Prim.Native.Nat.{ℕ, ◌+◌, ◌≤◌, ◌<◌}
use mathlib.Core.Path.{◌≡◌, sym}
use mathlib.Core.Bool.{Bool, true, false}
use mathlib.Core.Logic.{⊎_elim}
use native.Mathlib.Nat.{eq-or-lt_of_le}
use native.Mathlib.Omega.{arith}
use Rattle.definition.specs.02-Ranges.{lowest}
use Rattle.definition.proofs.RangeLaws.{lowest_is, lowest_none}

-- The test holds at none of the numbers below k.
pub record Passed (p : ℕ → Bool) (n k : ℕ) : Type 0 where
  pub within : k ≤ n
  pub none : (j : ℕ) → j < k → p j ≡ false

module _ (p : ℕ → Bool) (n : ℕ) where
  pub passed_start : Passed p n 0
  passed_start = record { within = omega arith; none = λ j below. absurd (omega arith) }

  pub passed_more : {k : ℕ} → Passed p n k → k < n → p k ≡ false → Passed p n (k + 1)
  passed_more {k} h lt e =
      record {
        within = omega arith;
        none = λ j below. let le : j ≤ k = omega arith in ⊎_elim (λ q. rw q e) (λ l. h.none j l) (eq-or-lt_of_le le);
      }

  -- the loop returns k
  pub passed_found : {k : ℕ} → Passed p n k → k < n → p k ≡ true → k ≡ lowest p n 0
  passed_found {k} h lt e = sym (lowest_is p n 0 k (omega arith) (omega arith) e (λ j from below. h.none j below))

  -- the loop has run out
  pub passed_all : {k : ℕ} → Passed p n k → n ≤ k → n ≡ lowest p n 0
  passed_all {k} h le = omega (arith, lowest_none p n 0 (λ j from below. h.none j (omega arith)))
