-- `sort_of` meets its contract: code 0 is agents. Assumes nothing.
use borrow.Author.Tests.{eq-eqb, ne_eqb}
use Rattle.definition.specs.14-Book.{sort_of_code}
use Rattle.formula_rows.specs.Meanings.{sort_meant}
use Rattle.rules.proofs.sixteen.sort_of.Goals as goal

pub returns-then-code-eq0 : goal.returns-then-code-eq0
unfolding sort_of_code sort_meant
returns-then-code-eq0 c = rw (eq-eqb _ 0 c.if-code-eq0.true)

pub returns-else-code-eq0 : goal.returns-else-code-eq0
unfolding sort_of_code sort_meant
returns-else-code-eq0 c = rw (ne_eqb _ 0 c.if-code-eq0.false)
