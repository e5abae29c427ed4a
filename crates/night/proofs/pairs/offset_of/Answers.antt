-- `offset_of` meets its contract: the pair is whole, so its bytes are there. Assumes nothing.
use borrow.Author.Rules.{rules}
use native.Mathlib.Omega.{arith}
use Rattle.definition.specs.36-Night.{whole_pairs, pair_offset}
use Rattle.night.proofs.pairs.offset_of.Goals as goal

pub overflow_mul-k : goal.overflow_mul-k
unfolding whole_pairs
overflow_mul-k c = omega arith

pub read_long-requires : goal.read_long-requires
unfolding whole_pairs
read_long-requires c = omega arith

pub returns : goal.returns
unfolding pair_offset
returns c = search rules
