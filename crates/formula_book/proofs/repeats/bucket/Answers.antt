-- `formula_book::repeats::bucket` meets its contract: the fields are below 65,536, so no product or sum wraps, and the sum is the definition's.
-- Assumes nothing.
use mathlib.Core.Path.{refl}
use native.Mathlib.Omega.{arith}
use Rattle.formula_rows.specs.Meanings.{row_meant}
use Rattle.formula_book.specs.RowTrees.{bucket_of}
use Rattle.formula_book.proofs.repeats.bucket.Goals as goal

pub returns : goal.returns
unfolding row_meant bucket_of
returns c = record { is = refl; below = omega arith }
