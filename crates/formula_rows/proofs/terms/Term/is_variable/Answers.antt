-- `Term::is_variable` meets its contract: one arm is a clause of the definition, and the other what is left. Assumes nothing.
use mathlib.Core.Path.{◌∙◌}
use Rattle.definition.specs.12-Terms.{is_variable}
use Rattle.formula_rows.specs.Meanings.{term_meant}
use Rattle.formula_rows.proofs.TermCases.{sorts_equal, no_variable}
use Rattle.formula_rows.proofs.terms.Term.is_variable.Goals as goal

pub returns-in-Variable : goal.returns-in-Variable
unfolding is_variable term_meant
returns-in-Variable c = rw c.in-Variable.is (c.eq.ensures ∙ sorts_equal _ _)

pub returns-in_default : goal.returns-in_default
returns-in_default c = no_variable _ _ c.in_default.not-Variable
