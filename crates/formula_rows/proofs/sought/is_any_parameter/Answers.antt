-- `is_any_parameter` meets its contract: a parameter of the one sort, or of the other. Assumes nothing.
use borrow.Author.Rules.{rules}
use Rattle.definition.specs.13-Formulas.{is_sought}
use Rattle.formula_rows.specs.Meanings.{sort_meant}
use Rattle.formula_rows.proofs.sought.is_any_parameter.Goals as goal

pub returns-then-is_parameter : goal.returns-then-is_parameter
unfolding is_sought sort_meant
returns-then-is_parameter c = search rules

pub returns-else-is_parameter : goal.returns-else-is_parameter
unfolding is_sought sort_meant
returns-else-is_parameter c = search rules
