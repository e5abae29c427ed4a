-- `Term::is_parameter` meets its contract: one arm is a clause of the definition, and the other what is left. Assumes nothing.
use mathlib.Core.Path.{◌∙◌}
use Rattle.definition.specs.12-Terms.{is_parameter}
use Rattle.formula_rows.specs.Meanings.{term_meant}
use Rattle.formula_rows.proofs.TermCases.{sorts_equal, no_parameter}
use Rattle.formula_rows.proofs.terms.Term.is_parameter.Goals as goal

pub returns-in-Parameter : goal.returns-in-Parameter
unfolding is_parameter term_meant
returns-in-Parameter c = rw c.in-Parameter.is (c.eq.ensures ∙ sorts_equal _ _)

pub returns-in_default : goal.returns-in_default
returns-in_default c = no_parameter _ _ c.in_default.not-Parameter
