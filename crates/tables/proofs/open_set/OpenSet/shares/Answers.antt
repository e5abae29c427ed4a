-- `OpenSet::shares` meets its contract: `&` has the digits that all three have, and it is not 0 just if it has one below 32. Assumes nothing.
use native.Mathlib.Omega.{arith}
use Rattle.tables.proofs.Bits.{any_shared}
use Rattle.tables.proofs.open_set.OpenSet.shares.Goals as goal

pub returns : goal.returns
returns c = let a = c.args in
    any_shared 32 a.each_use.bits a.self.bits a.other.bits (omega arith)
