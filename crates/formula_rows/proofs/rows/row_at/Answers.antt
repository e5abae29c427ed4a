-- `row_at` meets its contract: the row's eight bytes are in the book, and each field is read at its place.
-- Assumes nothing.
use Rattle.definition.specs.14-Book.{row_at}
use Rattle.formula_rows.specs.Meanings.{row_meant}
use Rattle.formula_rows.proofs.rows.row_at.Goals as goal

pub returns : goal.returns
unfolding row_meant row_at
returns c = simp (c.read_word.ensures, c.read_word-2.ensures, c.read_word-3.ensures)
