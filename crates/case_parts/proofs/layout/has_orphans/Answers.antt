-- `has_orphans` meets its contract. Assumes nothing.
use Rattle.std.proofs.Common.{arith}
use Rattle.std.proofs.lemmas.Bool.Decides.{nat_tests}
use Rattle.definition.specs.11-Layout.{orphans}
use Rattle.case_parts.proofs.layout.has_orphans.Goals as goal

pub returns-then-part_size-eq0 : goal.returns-then-part_size-eq0
unfolding orphans
returns-then-part_size-eq0 c = grind (arith, nat_tests)

pub returns-else-part_size-eq0 : goal.returns-else-part_size-eq0
unfolding orphans
returns-else-part_size-eq0 c = grind (arith, nat_tests)
