-- `end_of` meets its contract: the pair is whole, so its bytes are there. Assumes nothing.
use native.Mathlib.Omega.{arith}
use Rattle.definition.specs.36-Night.{whole_pairs, pair_offset, pair_length, pair_end}
use Rattle.night.proofs.pairs.end_of.Goals as goal

pub overflow_mul-k : goal.overflow_mul-k
unfolding whole_pairs
overflow_mul-k c = omega arith

pub read_long-requires : goal.read_long-requires
unfolding whole_pairs
read_long-requires c = omega arith

pub overflow_mul-k-2 : goal.overflow_mul-k-2
unfolding whole_pairs
overflow_mul-k-2 c = omega arith

pub overflow_add-k : goal.overflow_add-k
unfolding whole_pairs
overflow_add-k c = omega arith

pub read_long-requires-2 : goal.read_long-requires-2
unfolding whole_pairs
read_long-requires-2 c = omega arith

pub returns : goal.returns
unfolding pair_end pair_offset pair_length
returns c = omega (arith, c.read_long-2.ensures, c.read_long.ensures)
