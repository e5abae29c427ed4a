-- A walk over the numbers of a span, one turn at a time: what is left of the list at the number that the walk has come to. Assumes nothing.
use Prim.Native.Nat.{ℕ, suc, ◌+◌, ◌-◌, ◌≤◌, ◌<◌}
use mathlib.Core.Path.{◌≡◌}
use mathlib.Core.List.{[], ◌∷◌}
use native.Mathlib.Omega.{arith}
use Rattle.definition.specs.02-Ranges.{listed}

module _ {A : Type 0} (f : ℕ → A) (end j : ℕ) where
  pub listed_next : j < end → listed f (end - j) j ≡ f j ∷ listed f (end - (j + 1)) (j + 1)
  unfolding listed
  listed_next h = let e : end - j ≡ suc (end - (j + 1)) = omega arith in rw e

  pub listed_end : end ≤ j → listed f (end - j) j ≡ []
  unfolding listed
  listed_end h = let e : end - j ≡ 0 = omega arith in rw e

-- The whole list, at the first number.
pub listed_all : {A : Type 0} (f : ℕ → A) (from len : ℕ) → listed f (from + len - from) from ≡ listed f len from
listed_all f from len = let e : from + len - from ≡ len = omega arith in rw e
