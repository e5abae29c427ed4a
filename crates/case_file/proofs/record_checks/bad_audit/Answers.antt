-- `bad_audit` meets its contract: its three tests are the definition's. Assumes nothing.
use Rattle.std.proofs.Common.{arith, refl}
use Rattle.std.proofs.lemmas.Bool.Decides.{nat_tests}
use Rattle.definition.proofs.OccurrenceLaws.{agent_is}
use Rattle.definition.specs.11-Layout.{agent_of, action_of}
use Rattle.definition.specs.15-Records.{bad_audit}
use Rattle.case_file.proofs.BookOfFile.{named}
use Rattle.case_file.proofs.record_checks.bad_audit.Goals as goal

pub returns-then-not-ground_action : goal.returns-then-not-ground_action
unfolding bad_audit
returns-then-not-ground_action c = grind (arith, nat_tests, named {v = action_of c.args.file.now} c.requires refl, agent_is (agent_of c.args.file.now))

pub returns-else-not-ground_action : goal.returns-else-not-ground_action
unfolding bad_audit
returns-else-not-ground_action c = grind (arith, nat_tests, named {v = action_of c.args.file.now} c.requires refl, agent_is (agent_of c.args.file.now))
