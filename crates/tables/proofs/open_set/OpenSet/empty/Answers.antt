-- `OpenSet::empty` meets its contract: 0 has no digit. Assumes nothing.
use Rattle.tables.proofs.Bits.{labels_none}
use Rattle.tables.proofs.open_set.OpenSet.empty.Goals as goal

pub returns : goal.returns
returns c = labels_none
