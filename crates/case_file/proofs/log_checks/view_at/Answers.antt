-- `view_at` meets its contract: the arms are the definition's cases, in order. Assumes nothing.
use Rattle.std.proofs.Common.{arith}
use Rattle.std.proofs.lemmas.Bool.Decides.{nat_tests}
use Rattle.case_file.specs.Seen.{code_view}
use Rattle.case_file.specs.Meanings.{view_meant}
use Rattle.case_file.proofs.log_checks.view_at.Goals as goal

pub returns-in-65534 : goal.returns-in-65534
unfolding code_view view_meant
returns-in-65534 c l = grind (arith, nat_tests)

pub returns-in-65535 : goal.returns-in-65535
unfolding code_view view_meant
returns-in-65535 c l = grind (arith, nat_tests)

pub returns-in_default : goal.returns-in_default
unfolding code_view view_meant
returns-in_default c l = grind (arith, nat_tests)
