-- `size_of` meets its contract: the byte is the size that the column holds, of a good row. Assumes nothing.
use native.Mathlib.Omega.{arith}
use Rattle.definition.proofs.SizeColumns.{sizes_fit}
use Rattle.formula_book.proofs.answers.size_of.Goals as goal

pub overflow_cast-result : goal.overflow_cast-result
overflow_cast-result c = omega (arith, c.requires.size, (sizes_fit _ _ c.requires.row).1)

pub returns : goal.returns
returns c = (c.requires.size, omega (arith, c.requires.size, (sizes_fit _ _ c.requires.row).1))
