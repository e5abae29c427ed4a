-- `begun_pairs` meets its contract: bytes behind the last whole pair begin one more. Assumes nothing.
use Rattle.std.proofs.Common.{arith}
use Rattle.definition.specs.36-Night.{begun_pairs}
use Rattle.night.proofs.pairs.begun_pairs.Goals as goal

pub returns : goal.returns
unfolding begun_pairs
returns c = omega (arith, c.div_ceil.ensures)
