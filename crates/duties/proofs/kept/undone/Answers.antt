-- `undone` meets its contract. Assumes nothing.
use mathlib.Core.Path.{ap}
use mathlib.Core.Bool.{not}
use native.Mathlib.Omega.{arith}
use borrow.Author.Tests.{lt-ltb, le-ltb}
use Rattle.definition.specs.11-Layout.{hour_of}
use Rattle.definition.specs.15-Records.{obligation_due}
use Rattle.definition.specs.17-Case.{case_of}
use Rattle.definition.specs.23-Duties.{is_expired, is_done, undone}
use Rattle.case_file.proofs.Laws.{obligation_named, row_named_good}
use Rattle.duties.proofs.kept.undone.Goals as goal

pub done_by-requires : goal.done_by-requires
done_by-requires c = let duty = c.obligation_at-duty.ensures in
    let is = c.args.case.now.lent.lent.admitted in
    record { row_value = (rw duty.row (row_named_good _ is _ c.requires), rw duty.action (obligation_named _ is _ c.requires)) }

pub returns-then-duty-hour_of : goal.returns-then-duty-hour_of
unfolding undone is_expired is_done case_of
returns-then-duty-hour_of c = let duty = c.obligation_at-duty.ensures in
    rw (lt-ltb (obligation_due c.args.case.now.file.now c.args.o) (hour_of c.args.case.now.file.now) (omega (arith, c.if-duty-hour_of.true, duty.due, c.hour_of.ensures)), ← duty.row, ← duty.action) (ap not c.done_by.ensures)

pub returns-else-duty-hour_of : goal.returns-else-duty-hour_of
unfolding undone is_expired case_of
returns-else-duty-hour_of c = let duty = c.obligation_at-duty.ensures in
    rw (← duty.due, ← c.hour_of.ensures, le-ltb _ _ c.if-duty-hour_of.false)
