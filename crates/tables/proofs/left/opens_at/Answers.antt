-- `opens_at` meets its contract: the labels are the digits below 32. Assumes nothing.
use mathlib.Core.Path.{refl}
use Rattle.tables.specs.Sets.{left_in}
use Rattle.tables.proofs.left.opens_at.Goals as goal

pub returns : goal.returns
unfolding left_in
returns c = refl
