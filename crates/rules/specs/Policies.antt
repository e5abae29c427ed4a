-- What the code's policies stand for, each by the row that it would have in the book.
use Rattle.std.specs.Prelude.{ℕ, ◌≡◌, List}
use Rattle.std.specs.Prelude as std
use Rattle.std.proofs.Math.Option.{Option, none, some}
use Rattle.definition.specs.13-Formulas.{Formula, same}
use Rattle.definition.specs.14-Book.{Row, row_at, tree_in, tree_of, book as trees, same_row}
use Rattle.formula_rows.specs.Meanings.{row_meant}
use Rattle.case_file.specs.LentCase.{Numbered}
use Rattle.formula_rows.specs.declared.rows.Row as rows

unfoldable pub policy_meant : List Formula → std.Option rows.Row → Option Formula
policy_meant l std.None = none
policy_meant l (std.Some r) = some (tree_of l (row_meant r))

-- The row tells its formula: a formula of the book is that one just if it has that row.
abbrev pub Tells : List ℕ → Row → Type 0
Tells b r = (f : ℕ) → Numbered b f → same_row (row_at b f) r ≡ same (tree_in (trees b) f) (tree_of (trees b) r)

abbrev pub Told : List ℕ → std.Option rows.Row → Type 0
Told b std.None = Unit {0}
Told b (std.Some r) = Tells b (row_meant r)

-- The policy is the one expected, or none is, and its row tells it.
pub record PolicyIs (b : List ℕ) (p : std.Option rows.Row) (expected : Option Formula) : Type 0 where
  pub is : policy_meant (trees b) p ≡ expected
  pub told : Told b p

-- The row stands for the formula, and tells it.
pub record StandsFor (b : List ℕ) (r : rows.Row) (f : Formula) : Type 0 where
  pub is : tree_of (trees b) (row_meant r) ≡ f
  pub tells : Tells b (row_meant r)
