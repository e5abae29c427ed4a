-- `Term::is_object` meets its contract: one arm is a clause of the definition, and the other what is left. Assumes nothing.
use mathlib.Core.Path.{◌∙◌}
use Rattle.definition.specs.12-Terms.{is_object}
use Rattle.formula_rows.specs.Meanings.{term_meant}
use Rattle.formula_rows.proofs.TermCases.{sorts_equal, no_object}
use Rattle.formula_rows.proofs.terms.Term.is_object.Goals as goal

pub returns-in-Object : goal.returns-in-Object
unfolding is_object term_meant
returns-in-Object c = rw c.in-Object.is (c.eq.ensures ∙ sorts_equal _ _)

pub returns-in_default : goal.returns-in_default
returns-in_default c = no_object _ _ c.in_default.not-Object
