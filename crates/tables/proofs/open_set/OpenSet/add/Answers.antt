-- `OpenSet::add` meets its contract: the digit of the label is set, and the others stay. Assumes nothing.
use Rattle.tables.proofs.Bits.{labels_with}
use Rattle.tables.proofs.open_set.OpenSet.add.Goals as goal

pub returns : goal.returns
returns c = let a = c.args in labels_with a.self.bits a.label c.requires
