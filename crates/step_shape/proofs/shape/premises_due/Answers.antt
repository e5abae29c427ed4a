-- `premises_due` meets its contract. Assumes nothing.
use borrow.Author.Tests.{eq-eqb, ne_eqb}
use Rattle.definition.specs.15-Records.{span_due}
use Rattle.step_shape.proofs.shape.premises_due.Goals as goal

pub returns-then-k-eq0 : goal.returns-then-k-eq0
unfolding span_due
returns-then-k-eq0 c = rw (eq-eqb _ 0 c.if-k-eq0.true)

pub returns-else-k-eq0 : goal.returns-else-k-eq0
unfolding span_due
returns-else-k-eq0 c = let is = c.step_at-before.ensures in
    rw (ne_eqb _ 0 c.if-k-eq0.false, ← is.from, ← is.len)
