-- `and` meets its contract. Assumes nothing.
use Rattle.rules.proofs.ComparedRows.{and_stands}
use Rattle.rules.proofs.comparisons.and.Goals as goal

pub returns : goal.returns
returns c b n m = and_stands m n c.of_two.ensures
