-- `OpenSet::join` meets its contract: `|` has the digits of both. Assumes nothing.
use Rattle.tables.proofs.Bits.{labels_both}
use Rattle.tables.proofs.open_set.OpenSet.join.Goals as goal

pub returns : goal.returns
returns c = let a = c.args in labels_both a.self.bits a.other.bits
