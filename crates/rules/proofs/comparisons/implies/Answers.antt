-- `implies` meets its contract. Assumes nothing.
use Rattle.rules.proofs.ComparedRows.{implies_stands}
use Rattle.rules.proofs.comparisons.implies.Goals as goal

pub returns : goal.returns
returns c b n m = implies_stands m n c.of_two.ensures
