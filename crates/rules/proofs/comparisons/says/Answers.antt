-- `says` meets its contract. Assumes nothing.
use mathlib.Core.Path.{refl}
use Rattle.formula_rows.specs.Meanings.{row_meant}
use Rattle.rules.proofs.ComparedRows.{says_stands}
use Rattle.rules.proofs.comparisons.says.Goals as goal

pub returns : goal.returns
unfolding row_meant
returns c b m = says_stands m refl
