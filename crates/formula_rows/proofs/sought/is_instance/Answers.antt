-- `is_instance` meets its contract: an object of the sort, or else a parameter. Assumes nothing.
use borrow.Author.Rules.{rules}
use Rattle.definition.specs.12-Terms.{is_instance}
use Rattle.formula_rows.proofs.sought.is_instance.Goals as goal

pub returns-then-is_object : goal.returns-then-is_object
unfolding is_instance
returns-then-is_object c = search rules

pub returns-else-is_object : goal.returns-else-is_object
unfolding is_instance
returns-else-is_object c = search rules
