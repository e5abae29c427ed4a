-- `bad_obligation` meets its contract: its four tests are the definition's. Assumes nothing.
use Rattle.std.proofs.Common.{arith}
use Rattle.std.proofs.lemmas.Bool.Decides.{nat_tests}
use Rattle.definition.proofs.PartLaws.{log_rows}
use Rattle.definition.specs.15-Records.{bad_obligation}
use Rattle.case_file.proofs.BookOfFile.{named}
use Rattle.case_file.proofs.record_checks.bad_obligation.Goals as goal

pub returns-then-duty : goal.returns-then-duty
unfolding bad_obligation
returns-then-duty c = grind (arith, nat_tests, named c.requires.booked c.obligation_at-duty.ensures.action, log_rows _ c.requires.booked.parted)

pub returns-else-duty : goal.returns-else-duty
unfolding bad_obligation
returns-else-duty c = grind (arith, nat_tests, named c.requires.booked c.obligation_at-duty.ensures.action, log_rows _ c.requires.booked.parted)
