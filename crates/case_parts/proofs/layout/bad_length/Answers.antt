-- `bad_length` meets its contract. Assumes nothing.
use Rattle.std.proofs.Common.{arith}
use Rattle.std.proofs.lemmas.Bool.Decides.{nat_tests}
use Rattle.definition.specs.11-Layout.{bad_length}
use Rattle.case_parts.proofs.layout.bad_length.Goals as goal

pub returns-then-file-lt-HEADER_BYTES : goal.returns-then-file-lt-HEADER_BYTES
unfolding bad_length
returns-then-file-lt-HEADER_BYTES c = grind (arith, nat_tests)

pub returns-else-file-lt-HEADER_BYTES : goal.returns-else-file-lt-HEADER_BYTES
unfolding bad_length
returns-else-file-lt-HEADER_BYTES c = grind (arith, nat_tests)
