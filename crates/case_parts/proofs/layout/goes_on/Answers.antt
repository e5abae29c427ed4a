-- `goes_on` meets its contract. Assumes nothing.
use Rattle.definition.specs.11-Layout.{end}
use Rattle.case_parts.proofs.layout.goes_on.Goals as goal

pub returns : goal.returns
unfolding end
returns c = rw (c.part_offset-from.ensures, c.part_size-bytes.ensures)
