-- What an agent concludes from an action, and what it owes for one: the definition's functions say what the account's types say. By the cases of the action.
-- Assumes nothing.
use Prim.Native.Nat.{ℕ}
use mathlib.Core.Path.{◌≡◌, refl}
use mathlib.Core.Bool.{Bool, true, false, cond}
use mathlib.Core.Option.{none, some}
use native.Mathlib.Omega.{arith}
use lib.Dec.{eqb}
use borrow.Author.Tests.{eqb-true, eq-eqb}
use Rattle.definition.specs.13-Formulas.{Formula, predicate, owns, says, and, for_all, implies, after, communicates, creates, user_action, no_formula}
use Rattle.definition.specs.21-Rules.{conclusion, owed}
use Rattle.definition.specs.42-Account.{Concludes, told, made, Owes, telling, acting}

pub none_some : {A : Type 0} {x : A} → none ≡ some x → ⊥
none_some e = let z : ◌≡◌ {A = ℕ} 0 1 = cc in omega arith

-- what stands behind a test of two agents was given by it
given : (x agent : ℕ) (g f : Formula) → cond (eqb x agent) (some g) none ≡ some f → (x ≡ agent) × (f ≡ g)
given x agent g f e = go (eqb x agent) refl
  where
    go : (b : Bool) → eqb x agent ≡ b → (x ≡ agent) × (f ≡ g)
    go true q = let gives : some g ≡ some f = rw q at e in (eqb-true x agent q, cc)
    go false q = absurd (none_some (rw q at e))

neither : {f : Formula} {A B : Type 0} → (none ≡ some f → A) × (none ≡ some f → B)
neither = ((λ e. absurd (none_some e)), (λ e. absurd (none_some e)))

-- By the kinds of the action.
pub drawn : (agent : ℕ) (g f : Formula) → (conclusion agent g ≡ some f → Concludes agent g f) × (owed agent g ≡ some f → Owes agent g f)
unfolding conclusion owed
drawn agent (communicates x h z) f =
    ((λ e. let q = given z agent (says x h z) f e in rw (q.1, q.0) told), (λ e. let q = given x agent (says x h z) f e in rw (q.1, q.0) telling))
drawn agent (creates x y) f = ((λ e. let q = given x agent (owns x y) f e in rw (q.1, q.0) made), (λ e. absurd (none_some e)))
drawn agent (user_action c x y z) f = ((λ e. absurd (none_some e)), (λ e. let q = given x agent (predicate c x y z) f e in rw (q.1, q.0) acting))
drawn agent (predicate c x y z) f = neither
drawn agent (owns x y) f = neither
drawn agent (says x h z) f = neither
drawn agent (and h g) f = neither
drawn agent (for_all σ h) f = neither
drawn agent (implies h g) f = neither
drawn agent (after m a h) f = neither
drawn agent no_formula f = neither

pub concluded : {agent : ℕ} {g f : Formula} → Concludes agent g f → conclusion agent g ≡ some f
unfolding conclusion
concluded {agent} told = rw (eq-eqb agent agent refl)
concluded {agent} made = rw (eq-eqb agent agent refl)

pub owing : {agent : ℕ} {g f : Formula} → Owes agent g f → owed agent g ≡ some f
unfolding owed
owing {agent} telling = rw (eq-eqb agent agent refl)
owing {agent} acting = rw (eq-eqb agent agent refl)
