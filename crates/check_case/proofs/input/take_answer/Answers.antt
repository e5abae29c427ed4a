-- An error, the end and bytes are each taken as the definition takes them.
use Rattle.std.proofs.Common.{arith}
use Rattle.std.proofs.Math.Facts.{to_z-of_z}
use Rattle.check_case.proofs.Readings.{taken_error, taken_end, taken_bytes, taken_last}
use Rattle.check_case.proofs.input.take_answer.Goals as goal

pub returns-then-got-lt0 : goal.returns-then-got-lt0
returns-then-got-lt0 c = rw (← to_z-of_z c.ranges.got) (taken_error c.args.done _ c.args.piece.now c.args.buffer.now c.if-got-lt0.true)

pub returns-then-more-eq0 : goal.returns-then-more-eq0
returns-then-more-eq0 c =
    rw (← to_z-of_z c.ranges.got)
    (taken_end c.args.done _ c.args.piece.now c.args.buffer.now c.if-got-lt0.false (omega (arith, c.count-more.ensures.value)) (omega arith))

pub returns-then-end-buffer : goal.returns-then-end-buffer
returns-then-end-buffer c =
    let k = c.count-more.ensures in
    rw (← to_z-of_z c.ranges.got)
    (taken_bytes c.args.done _ c.args.piece.now c.args.buffer.now c.put_word-end.new.out c.count-more.result c.put_word-end.result c.if-got-lt0.false
    k.value k.prefix_len.0 (omega arith) c.put_word-end.ensures c.requires (omega arith))

pub returns-else-end-buffer : goal.returns-else-end-buffer
returns-else-end-buffer c =
    let k = c.count-more.ensures in
    rw (← to_z-of_z c.ranges.got)
    (taken_last c.args.done _ c.args.piece.now c.args.buffer.now c.put_word-end.new.out c.count-more.result c.put_word-end.result c.if-got-lt0.false
    k.value k.prefix_len.0 (omega arith) c.put_word-end.ensures c.requires (omega arith))
