-- Two views are equal in at most one way, since it can be decided whether they are.
use Rattle.std.proofs.Math.Decide.{ℕ_discrete}
use mathlib.Core.Path.{refl, ap}
use mathlib.Core.HLevel.{Discrete, hedberg}
use Rattle.definition.specs.12-Terms.{Sort-discrete}
use Rattle.definition.specs.13-Formulas.{Formula-discrete}
use Rattle.definition.specs.16-Views.{RowView, hidden, struck, shows}

RowView_discrete : Discrete RowView
RowView_discrete hidden hidden = yes refl
RowView_discrete hidden struck = no (λ e. cc)
RowView_discrete hidden (shows g) = no (λ e. cc)
RowView_discrete struck hidden = no (λ e. cc)
RowView_discrete struck struck = yes refl
RowView_discrete struck (shows g) = no (λ e. cc)
RowView_discrete (shows f) hidden = no (λ e. cc)
RowView_discrete (shows f) struck = no (λ e. cc)
RowView_discrete (shows f) (shows g) = elim (Formula-discrete ℕ_discrete Sort-discrete f g) [ yes p ↦ yes (ap shows p) | no q ↦ no (λ e. q (cc)) ]

pub RowView-set : IsSet RowView
RowView-set = hedberg RowView_discrete
