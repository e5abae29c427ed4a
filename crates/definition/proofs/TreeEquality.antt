-- `same` says whether two formulas are equal, and so rules that compare formulas may speak of equality. Assumes nothing.
use mathlib.Core.Path.{◌≡◌, refl}
use mathlib.Core.Bool.{true, decide_iff}
use mathlib.Core.Logic.{◌↔◌}
use native.Mathlib.Decide.{ℕ_discrete}
use Rattle.definition.specs.12-Terms.{Sort-discrete}
use Rattle.definition.specs.13-Formulas.{Formula, Formula-discrete, same}

pub same_is : (f g : Formula) → (same f g ≡ true) ↔ (f ≡ g)
unfolding same
same_is f g = decide_iff (Formula-discrete ℕ_discrete Sort-discrete f g)

pub same_true : (f g : Formula) → same f g ≡ true → f ≡ g
same_true f g = (same_is f g).0

pub same_of : (f g : Formula) → f ≡ g → same f g ≡ true
same_of f g = (same_is f g).1

pub same_refl : (f : Formula) → same f f ≡ true
same_refl f = same_of f f refl
