-- What is left by the power of two has the digits below it. Assumes nothing.
use native.Mathlib.Omega.{arith}
use Rattle.tables.proofs.Bits.{shifted_one, any_below}
use Rattle.tables.proofs.open_set.OpenSet.some_below.Goals as goal

pub returns : goal.returns
returns c = rw (c.from.ensures, shifted_one 64 c.args.n (omega (arith, c.requires))) (any_below c.args.n c.args.self.bits)
