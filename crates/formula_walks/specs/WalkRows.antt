-- What a walk over a formula asks for.
use Rattle.std.specs.Prelude.{ℕ, ◌+◌, ◌≤◌, ◌<◌, Bool, true, false, ◌≡◌, List}
use Rattle.definition.specs.01-Words.{absent}
use Rattle.definition.specs.13-Formulas.{Formula, Sought, is_sought}
use Rattle.definition.specs.14-Book.{book, book_rows, tree_in, bad_formula}

-- A row from which a walk may start, under `depth` for-alls: no row up to it is bad, and its tree is of the kind asked for.
pub record WalkRow (is : Formula → Bool) (s : List ℕ) (row depth : ℕ) : Type 0 where
  pub good : (j : ℕ) → j ≤ row → bad_formula s (book s) j ≡ false
  pub inside : row < book_rows s
  pub kind : is (tree_in (book s) row) ≡ true
  pub deep : depth + row ≤ 65535

-- What is looked for is never the absent term.
abbrev pub Present : Sought → Type 0
Present w = (d : ℕ) → is_sought w d absent ≡ false
