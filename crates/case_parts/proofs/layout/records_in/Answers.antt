-- `records_in` meets its contract. Assumes nothing.
use native.Mathlib.Omega.{arith}
use Rattle.definition.specs.11-Layout.{records_in}
use Rattle.case_parts.proofs.LayoutLaws.{some_bytes}
use Rattle.case_parts.proofs.layout.records_in.Goals as goal

pub nonzero_div-result : goal.nonzero_div-result
nonzero_div-result c = omega (arith, some_bytes c.args.p, c.record_bytes-each.ensures)

pub returns : goal.returns
unfolding records_in
returns c = rw c.record_bytes-each.ensures
