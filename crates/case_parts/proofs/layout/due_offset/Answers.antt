-- `due_offset` meets its contract. Assumes nothing.
use Rattle.std.proofs.Common.{arith}
use Rattle.std.proofs.lemmas.Bool.Decides.{nat_tests}
use Rattle.definition.specs.11-Layout.{end, due_offset}
use Rattle.case_parts.proofs.layout.due_offset.Goals as goal

pub returns-then-p-eq0 : goal.returns-then-p-eq0
unfolding due_offset end
returns-then-p-eq0 c = grind (arith, nat_tests)

pub returns-else-p-eq0 : goal.returns-else-p-eq0
unfolding due_offset end
returns-else-p-eq0 c = grind (arith, nat_tests)
