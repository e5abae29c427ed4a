-- `count_of` meets its contract. Assumes nothing.
use native.Mathlib.Omega.{arith}
use Rattle.definition.proofs.PartLaws.{header_inside}
use Rattle.case_parts.proofs.LayoutLaws.{some_bytes, counted}
use Rattle.case_parts.proofs.layout.count_of.Goals as goal

pub part_size-bytes-requires : goal.part_size-bytes-requires
part_size-bytes-requires c = (header_inside _ c.requires.0, c.requires.1)

pub nonzero_div-result : goal.nonzero_div-result
nonzero_div-result c = omega (arith, some_bytes c.args.p, c.record_bytes-each.ensures)

pub returns : goal.returns
returns c = let p = c.requires in
    counted _ p.0 _ p.1 _ _ c.part_size-bytes.ensures c.record_bytes-each.ensures
