-- `put_term` meets its contract: what is read of the term is the test of `put_term`. Assumes nothing.
use borrow.Author.Rules.{rules}
use Rattle.definition.specs.13-Formulas.{put_term}
use Rattle.formula_walks.proofs.instances.put_term.Goals as goal

pub returns-then-is_bound : goal.returns-then-is_bound
unfolding put_term
returns-then-is_bound c = search rules

pub returns-else-is_bound : goal.returns-else-is_bound
unfolding put_term
returns-else-is_bound c = search rules
