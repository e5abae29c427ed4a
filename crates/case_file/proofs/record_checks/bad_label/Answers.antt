-- `bad_label` meets its contract. Assumes nothing.
use Rattle.std.proofs.Common.{arith}
use Rattle.std.proofs.lemmas.Bool.Decides.{nat_tests}
use Rattle.definition.specs.15-Records.{bad_label, is_duty}
use Rattle.case_file.proofs.BookOfFile.{named}
use Rattle.case_file.proofs.record_checks.bad_label.Goals as goal

pub returns-then-is : goal.returns-then-is
unfolding bad_label is_duty
returns-then-is c = grind (arith, nat_tests, named c.requires.booked c.label_at-label.ensures.formula)

pub returns-then-not-is_duty : goal.returns-then-not-is_duty
unfolding bad_label is_duty
returns-then-not-is_duty c = grind (arith, nat_tests, named c.requires.booked c.label_at-label.ensures.formula)

pub returns-else-not-is_duty : goal.returns-else-not-is_duty
unfolding bad_label is_duty
returns-else-not-is_duty c = grind (arith, nat_tests, named c.requires.booked c.label_at-label.ensures.formula)
