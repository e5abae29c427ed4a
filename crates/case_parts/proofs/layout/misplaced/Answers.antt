-- `misplaced` meets its contract. Assumes nothing.
use Rattle.std.proofs.Common.{arith}
use Rattle.std.proofs.lemmas.Bool.Decides.{nat_tests}
use Rattle.definition.specs.11-Layout.{is_misplaced, count, end}
use Rattle.case_parts.proofs.LayoutLaws.{some_bytes}
use Rattle.case_parts.proofs.layout.misplaced.Goals as goal

pub nonzero_rem-bytes : goal.nonzero_rem-bytes
nonzero_rem-bytes c = omega (arith, some_bytes c.args.p, c.record_bytes-each.ensures)

pub nonzero_div-bytes : goal.nonzero_div-bytes
nonzero_div-bytes c = omega (arith, some_bytes c.args.p, c.record_bytes-each.ensures)

pub returns-then-most_records-bytes : goal.returns-then-most_records-bytes
unfolding is_misplaced count end
returns-then-most_records-bytes c = grind (arith, nat_tests)

pub returns-else-most_records-bytes : goal.returns-else-most_records-bytes
unfolding is_misplaced count end
returns-else-most_records-bytes c = grind (arith, nat_tests)
