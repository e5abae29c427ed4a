-- `bad_row_named` meets its contract. Assumes nothing.
use Rattle.std.proofs.Common.{arith}
use Rattle.std.proofs.lemmas.Bool.Decides.{nat_tests}
use Rattle.definition.specs.15-Records.{bad_row_named}
use Rattle.case_file.proofs.record_checks.bad_row_named.Goals as goal

pub returns-then-row-ne-ABSENT : goal.returns-then-row-ne-ABSENT
unfolding bad_row_named
returns-then-row-ne-ABSENT c = grind (arith, nat_tests)

pub returns-else-row-ne-ABSENT : goal.returns-else-row-ne-ABSENT
unfolding bad_row_named
returns-else-row-ne-ABSENT c = grind (arith, nat_tests)
