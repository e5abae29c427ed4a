-- `has_sort` meets its contract: an instance of the sort, or else a variable. Assumes nothing.
use borrow.Author.Rules.{rules}
use Rattle.definition.specs.12-Terms.{has_sort}
use Rattle.formula_rows.proofs.sought.has_sort.Goals as goal

pub returns-then-is_instance : goal.returns-then-is_instance
unfolding has_sort
returns-then-is_instance c = search rules

pub returns-else-is_instance : goal.returns-else-is_instance
unfolding has_sort
returns-else-is_instance c = search rules
