-- `is_after` meets its contract: kind 6 has mark 1 and kind 7 mark 2, and another mark is no duty's. Assumes nothing.
use borrow.Author.Tests.{ne_eqb}
use Rattle.definition.specs.15-Records.{is_duty}
use Rattle.rules.proofs.ComparedRows.{each_use_stands, once_stands}
use Rattle.rules.proofs.comparisons.is_after.Goals as goal

pub returns-then-mark : goal.returns-then-mark
unfolding is_duty
returns-then-mark c = rw c.if-mark.true (c.is_row.ensures _ (each_use_stands c.requires.2 c.requires.1 c.of_two.ensures))

pub returns-then-mark-2 : goal.returns-then-mark-2
unfolding is_duty
returns-then-mark-2 c = rw c.if-mark-2.true (c.is_row-then-mark-2.ensures _ (once_stands c.requires.2 c.requires.1 c.of_two-then-mark-2.ensures))

pub returns-else-mark-2 : goal.returns-else-mark-2
unfolding is_duty
returns-else-mark-2 c = rw (ne_eqb c.args.mark 1 c.if-mark.false, ne_eqb c.args.mark 2 c.if-mark-2.false)
