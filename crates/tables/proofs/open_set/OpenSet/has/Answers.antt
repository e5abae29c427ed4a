-- `OpenSet::has` meets its contract: it tests the digit that the definition tests. Assumes nothing.
use mathlib.Core.Path.{refl}
use Rattle.tables.specs.Sets.{labels_of}
use Rattle.tables.proofs.open_set.OpenSet.has.Goals as goal

pub returns : goal.returns
unfolding labels_of
returns c = refl
