-- Check 3 row by row, with the column of sizes: what it holds is said in the definition.
use Rattle.std.specs.Prelude.{ℕ, ◌≤◌, ◌<◌, false, cond, ◌≡◌, List, Option, None, Some}
use Rattle.definition.specs.13-Formulas.{nodes}
use Rattle.definition.specs.14-Book.{book_rows, book, tree_in, bad_formula}
use Rattle.formula_rows.specs.Nodes.{Node, leaf, said, pair, body, duty, no_node}
pub use Rattle.definition.specs.46-Requests.{SizeHeld, SizesHeld, SizesTold}

-- The first k rows are not bad.
pub record GoodBelow (s : List ℕ) (k : ℕ) : Type 0 where
  pub inside : k ≤ book_rows s
  pub few : k ≤ 1024
  pub good : (j : ℕ) → j < k → bad_formula s (book s) j ≡ false

-- The column holds the sizes of a node's children.
abbrev pub ChildrenHeld : (s sizes : List ℕ) → Node → Type 0
ChildrenHeld s sizes (leaf x y z) = Unit {0}
ChildrenHeld s sizes (said x y z) = SizeHeld s sizes y
ChildrenHeld s sizes (pair x y) = SizeHeld s sizes x × SizeHeld s sizes y
ChildrenHeld s sizes (body x) = SizeHeld s sizes x
ChildrenHeld s sizes (duty x y) = SizeHeld s sizes x × SizeHeld s sizes y
ChildrenHeld s sizes no_node = Unit {0}

-- The nodes of row k's tree, unless the row is bad.
unfoldable pub size_at : List ℕ → ℕ → Option ℕ
size_at s k = cond (bad_formula s (book s) k) None (Some (nodes (tree_in (book s) k)))
