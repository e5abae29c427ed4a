-- Where the case is passed the obligations' lines are written and then the rows', else nothing.
use Rattle.std.proofs.Common.{arith, rules, ◌*◌, ◌≡◌, length}
use Rattle.checker.specs.Meanings.{verdict_meant}
use Rattle.definition.specs.31-Outcome.{passed, none_owed}
use Rattle.definition.specs.33-Text.{entry_lines, duty_word}
use Rattle.check_case.proofs.WrittenText.{nothing, and_then, room_left}
use Rattle.check_case.proofs.Lines.{passed_lines}
use Rattle.check_case.proofs.Lengths.{rows_fit, lines_most}
use Rattle.check_case.proofs.report.put_room.Goals as goal

pub put_lines-requires-clause-entries_in_bounds : goal.put_lines-requires-clause-entries_in_bounds
put_lines-requires-clause-entries_in_bounds c =
    let v = c.in-Ok-Passed in
    let duties = c.first.result.now in
    let rows = c.first-in-Ok-Passed.result.now in
    room_left c.put_lines-end.ensures (11 * length duties) (11 * length rows) (lines_most duty_word duties (omega arith))
    (omega (arith, rows_fit c.args.room.now v.obligations v.rows c.first.ensures c.after.ensures c.first-in-Ok-Passed.ensures))

pub returns-in-Ok-Passed : goal.returns-in-Ok-Passed
unfolding verdict_meant
returns-in-Ok-Passed c =
    let v = c.in-Ok-Passed in
    let e : verdict_meant c.args.verdict ≡ passed v.obligations v.rows = search rules in
    rw (e, ← passed_lines c.args.room.now v.obligations v.rows c.first.ensures c.after.ensures c.first-in-Ok-Passed.ensures)
    (and_then c.put_lines-end.ensures c.put_lines.ensures)

pub returns-in-Ok-NoneOwed : goal.returns-in-Ok-NoneOwed
unfolding verdict_meant entry_lines
returns-in-Ok-NoneOwed c = let e : verdict_meant c.args.verdict ≡ none_owed = search rules in rw e (nothing _ _)

pub returns-in-Err : goal.returns-in-Err
unfolding verdict_meant entry_lines
returns-in-Err c = rw c.in-Err.is (nothing _ _)
