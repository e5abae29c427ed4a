-- `is_data_variable` meets its contract. Assumes nothing.
use borrow.Author.Rules.{rules}
use Rattle.definition.specs.13-Formulas.{is_sought}
use Rattle.formula_rows.specs.Meanings.{sort_meant}
use Rattle.formula_rows.proofs.sought.is_data_variable.Goals as goal

pub returns : goal.returns
unfolding is_sought sort_meant
returns c = search rules
