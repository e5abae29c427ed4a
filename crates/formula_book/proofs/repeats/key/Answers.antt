-- `formula_book::repeats::key` meets its contract: the fields fill 64 bits, so no product or sum wraps. Assumes nothing.
use mathlib.Core.Path.{refl}
use Rattle.formula_rows.specs.Meanings.{row_meant}
use Rattle.formula_book.specs.RowTrees.{key_of}
use Rattle.formula_book.proofs.repeats.key.Goals as goal

pub returns : goal.returns
unfolding row_meant key_of
returns c = refl
