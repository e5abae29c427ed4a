-- `is_term` meets its contract: a term of the one sort, or of the other. Assumes nothing.
use borrow.Author.Rules.{rules}
use Rattle.definition.specs.12-Terms.{is_term}
use Rattle.formula_rows.specs.Meanings.{sort_meant}
use Rattle.formula_rows.proofs.sought.is_term.Goals as goal

pub returns-then-has_sort : goal.returns-then-has_sort
unfolding is_term sort_meant
returns-then-has_sort c = search rules

pub returns-else-has_sort : goal.returns-else-has_sort
unfolding is_term sort_meant
returns-else-has_sort c = search rules
