-- What is told of a formula in which no data variable should stand, as a definition over its book; and what the code answers about its data.
use Rattle.std.specs.Prelude.{ℕ, cond, List}
use Rattle.definition.specs.13-Formulas.{data_variable, has}
use Rattle.definition.specs.14-Book.{tree_in, book, stray_row}
use Rattle.definition.specs.04-Checks.{Checked, accepts, refuses}

-- A row, or an answer.
pub data StrayOr (A : Type 0) : Type 0 where
  stray : (row : ℕ) → StrayOr A
  clear : A → StrayOr A

-- Of the formula of number k: "the lowest row reached from the formula that itself holds" a data variable, if one stands in it; otherwise the answer.
unfoldable pub stray_or : {A : Type 0} → List ℕ → (k : ℕ) → A → StrayOr A
stray_or s k answer = cond (has data_variable 0 (tree_in (book s) k)) (stray (stray_row s k)) (clear answer)

-- The same as a run: check 27 fails, with the row as its place, or does not.
unfoldable pub by_stray : {A : Type 0} → StrayOr A → Checked A
by_stray (stray row) = refuses 27 row
by_stray (clear answer) = accepts answer
