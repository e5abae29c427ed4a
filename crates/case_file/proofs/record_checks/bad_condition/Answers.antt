-- `bad_condition` meets its contract. Assumes nothing.
use Rattle.std.proofs.Common.{arith}
use Rattle.std.proofs.lemmas.Bool.Decides.{nat_tests}
use Rattle.definition.specs.15-Records.{bad_condition}
use Rattle.case_file.proofs.BookOfFile.{named}
use Rattle.case_file.proofs.record_checks.bad_condition.Goals as goal

pub returns-then-condition : goal.returns-then-condition
unfolding bad_condition
returns-then-condition c = grind (arith, nat_tests, named c.requires.booked c.condition_formula-condition.ensures)

pub returns-else-condition : goal.returns-else-condition
unfolding bad_condition
returns-else-condition c = grind (arith, nat_tests, named c.requires.booked c.condition_formula-condition.ensures)
