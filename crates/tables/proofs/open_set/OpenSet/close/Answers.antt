-- `OpenSet::close` meets its contract: every digit but that of the label stays. Assumes nothing.
use native.Mathlib.Omega.{arith}
use Rattle.tables.proofs.Bits.{labels_without}
use Rattle.tables.proofs.open_set.OpenSet.close.Goals as goal

pub returns : goal.returns
returns c = let a = c.args in labels_without a.self.bits a.label (omega arith) c.requires
