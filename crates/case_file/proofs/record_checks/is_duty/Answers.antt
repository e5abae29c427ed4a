-- `is_duty` meets its contract. Assumes nothing.
use Rattle.std.proofs.Common.{arith}
use Rattle.std.proofs.lemmas.Bool.Decides.{nat_tests}
use Rattle.definition.specs.15-Records.{is_duty}
use Rattle.case_file.proofs.record_checks.is_duty.Goals as goal

pub returns-then-mark : goal.returns-then-mark
unfolding is_duty
returns-then-mark c = grind (arith, nat_tests)

pub returns-else-mark : goal.returns-else-mark
unfolding is_duty
returns-else-mark c = grind (arith, nat_tests)
