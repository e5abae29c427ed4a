-- `bad_action` meets its contract: absent is no fault, and any other number has to be a ground action's. Assumes nothing.
use Rattle.std.proofs.Common.{arith}
use Rattle.std.proofs.lemmas.Bool.Decides.{nat_tests}
use Rattle.definition.specs.15-Records.{bad_action}
use Rattle.case_file.proofs.log_checks.bad_action.Goals as goal

pub returns-then-action-ne-ABSENT : goal.returns-then-action-ne-ABSENT
unfolding bad_action
returns-then-action-ne-ABSENT c = grind (arith, nat_tests)

pub returns-else-action-ne-ABSENT : goal.returns-else-action-ne-ABSENT
unfolding bad_action
returns-else-action-ne-ABSENT c = grind (arith, nat_tests)
