-- `is_used` meets its contract: it tests digit 32. Assumes nothing.
use mathlib.Core.Path.{refl}
use Rattle.tables.specs.Sets.{left_in}
use Rattle.tables.proofs.left.is_used.Goals as goal

pub returns : goal.returns
unfolding left_in
returns c = refl
