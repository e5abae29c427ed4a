-- The word, the number and the line end are one text, and a number has five digits at most.
use Rattle.std.proofs.Common.{arith, ◌+◌, length, length-append}
use Rattle.definition.specs.33-Text.{line}
use Rattle.check_case.proofs.WrittenText.{and_then, room_left}
use Rattle.check_case.proofs.Numerals.{numeral_most}
use Rattle.check_case.proofs.text.put_line.Goals as goal

pub put_word-requires : goal.put_word-requires
put_word-requires c =
    let a = c.args in
    room_left (and_then c.put_word-number.ensures c.put_number-end.ensures) (length a.word.now + 5) 1 (simp length-append (omega (arith, numeral_most a.n))) (omega arith)

pub returns : goal.returns
unfolding line
returns c = and_then (and_then c.put_word-number.ensures c.put_number-end.ensures) c.put_word.ensures
