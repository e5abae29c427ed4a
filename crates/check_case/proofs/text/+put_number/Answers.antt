-- Both returns by the numeral's own laws: one digit, or the tens and then the last digit.
use Rattle.std.proofs.Common.{arith}
use Rattle.check_case.proofs.Numerals.{numeral_one, numeral_more, tens_most}
use Rattle.check_case.proofs.WrittenText.{and_then, room_left}
use Rattle.check_case.proofs.text.+put_number.Goals as goal

pub returns-then-n-lt10 : goal.returns-then-n-lt10
returns-then-n-lt10 t c = rw (numeral_one c.args.n c.if-n-lt10.true) c.put_digit.ensures

pub put_digit-requires-2-clause-in_bounds : goal.put_digit-requires-2-clause-in_bounds
put_digit-requires-2-clause-in_bounds t c = omega (arith, room_left c.put_number-end.ensures 4 1 (tens_most c.args.n c.if-n-lt10.false (omega arith)) (omega (arith, c.requires)))

pub returns : goal.returns
returns t c = rw (← numeral_more c.args.n c.if-n-lt10.false (omega arith)) (and_then c.put_number-end.ensures c.put_digit-2.ensures)
