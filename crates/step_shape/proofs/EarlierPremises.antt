-- What check 13 gives: every premise is an earlier step, and all are marked. Assumes nothing.
use Prim.Native.Nat.{ℕ, zero, suc, ◌+◌, ◌≤◌, ◌<◌}
use mathlib.Core.Path.{◌≡◌, refl}
use mathlib.Core.Bool.{Bool, true, false, not, ◌||◌}
use mathlib.Core.Logic.{⊎_elim}
use mathlib.Core.List.{List, [], ◌∷◌}
use native.Mathlib.Nat.{eq-or-lt_of_le}
use native.Mathlib.Omega.{arith}
use lib.Dec.{ltb}
use borrow.Author.Tests.{ltb-true, not-false}
use Rattle.definition.proofs.Tests.{or_false}
use Rattle.definition.specs.02-Ranges.{listed, update}
use Rattle.definition.specs.22-Steps.{bad_premises, mark_all}
use Rattle.step_shape.specs.TakenPremises.{takes}

pub premises_earlier :
    (f : ℕ → ℕ) (used : ℕ → Bool) (k left from : ℕ) → bad_premises used k (listed f left from) ≡ false →
    (j : ℕ) → from ≤ j → j < from + left → f j < k
unfolding bad_premises listed
premises_earlier f used k zero from e j up below = absurd (omega arith)
premises_earlier f used k (suc left) from e j up below =
    let rest = or_false (not (ltb (f from) k) || used (f from)) _ e in
    let here = or_false (not (ltb (f from) k)) (used (f from)) rest.0 in
    ⊎_elim (λ q. rw (← q) (ltb-true (f from) k (not-false _ here.0)))
    (λ lt. premises_earlier f (update used (f from) true) k left (from + 1) rest.1 j (omega arith) (omega arith)) (eq-or-lt_of_le up)

pub all_taken : (used : ℕ → Bool) (k : ℕ) (ps : List ℕ) → bad_premises used k ps ≡ false → takes used k ps ≡ mark_all used ps
unfolding bad_premises takes mark_all
all_taken used k [] e = refl
all_taken used k (p ∷ ps) e =
    let rest = or_false (not (ltb p k) || used p) _ e in
    rw rest.0 (all_taken (update used p true) k ps rest.1)
