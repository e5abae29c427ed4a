-- `part` meets its contract. Assumes nothing.
use native.Mathlib.Omega.{arith}
use Rattle.definition.proofs.PartLaws.{header_inside, part_inside}
use Rattle.case_parts.proofs.LayoutLaws.{part_is}
use Rattle.case_parts.proofs.layout.part.Goals as goal

pub part_offset-from-requires : goal.part_offset-from-requires
part_offset-from-requires c = (header_inside _ c.requires.0, c.requires.1)

pub part_size-bytes-requires : goal.part_size-bytes-requires
part_size-bytes-requires c = (header_inside _ c.requires.0, c.requires.1)

pub slice_bounds-result-end : goal.slice_bounds-result-end
slice_bounds-result-end c = let p = c.requires in
    omega (arith, part_inside _ p.0 _ p.1, c.part_offset-from.ensures, c.part_size-bytes.ensures)

pub returns : goal.returns
returns c = part_is _ _ _ _ c.part_offset-from.ensures c.part_size-bytes.ensures
