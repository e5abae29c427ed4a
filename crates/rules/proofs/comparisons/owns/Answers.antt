-- `owns` meets its contract. Assumes nothing.
use Rattle.rules.proofs.ComparedRows.{owns_stands}
use Rattle.rules.proofs.comparisons.owns.Goals as goal

pub returns : goal.returns
returns c b = owns_stands c.of_two.ensures
