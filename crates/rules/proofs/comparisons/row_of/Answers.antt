-- `row_of` meets its contract. Assumes nothing.
use Rattle.rules.proofs.ComparedRows.{readable}
use Rattle.rules.proofs.comparisons.row_of.Goals as goal

pub row_at-requires : goal.row_at-requires
row_at-requires c = readable c.requires
