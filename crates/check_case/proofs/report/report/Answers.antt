-- Three texts are written one after the other, and the buffer has room for the longest.
use Rattle.std.proofs.Common.{arith, ◌*◌, length, length-append}
use Rattle.checker.specs.Meanings.{verdict_meant}
use Rattle.definition.specs.33-Text.{report_text, case_word}
use Rattle.check_case.proofs.WrittenText.{and_then, room_left}
use Rattle.check_case.proofs.Lengths.{line_most, verdict_most}
use Rattle.check_case.proofs.report.report.Goals as goal

pub put_verdict-verdict_line-requires : goal.put_verdict-verdict_line-requires
put_verdict-verdict_line-requires c = room_left c.put_line-bytes_line.ensures 11 20 (line_most case_word c.args.bytes) (omega arith)

pub put_room-requires : goal.put_room-requires
put_room-requires c =
    let a = c.args in
    room_left (and_then c.put_line-bytes_line.ensures c.put_verdict-verdict_line.ensures) 31 (11 * length a.room.now)
    (simp length-append (omega (arith, line_most case_word a.bytes, verdict_most (verdict_meant a.verdict)))) (omega arith)

pub returns : goal.returns
unfolding report_text
returns c = and_then (and_then c.put_line-bytes_line.ensures c.put_verdict-verdict_line.ensures) c.put_room.ensures
