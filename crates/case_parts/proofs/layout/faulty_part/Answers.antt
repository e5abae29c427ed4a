-- `faulty_part` meets its contract. Assumes nothing.
use Rattle.std.proofs.Common.{arith}
use Rattle.std.proofs.lemmas.Bool.Decides.{nat_tests}
use Rattle.definition.specs.11-Layout.{faulty_part}
use Rattle.case_parts.proofs.layout.faulty_part.Goals as goal

pub returns-then-has_orphans : goal.returns-then-has_orphans
unfolding faulty_part
returns-then-has_orphans c = grind (arith, nat_tests)

pub returns-then-p-eq-PREMISES-2 : goal.returns-then-p-eq-PREMISES-2
unfolding faulty_part
returns-then-p-eq-PREMISES-2 c = grind (arith, nat_tests)

pub returns-else-p-eq-PREMISES-2 : goal.returns-else-p-eq-PREMISES-2
unfolding faulty_part
returns-else-p-eq-PREMISES-2 c = grind (arith, nat_tests)
