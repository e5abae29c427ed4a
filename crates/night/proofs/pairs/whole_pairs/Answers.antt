-- `whole_pairs` meets its contract. Assumes nothing.
use borrow.Author.Rules.{rules}
use Rattle.definition.specs.36-Night.{whole_pairs}
use Rattle.night.proofs.pairs.whole_pairs.Goals as goal

pub returns : goal.returns
unfolding whole_pairs
returns c = search rules
