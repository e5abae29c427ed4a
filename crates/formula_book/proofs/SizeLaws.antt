-- The column of sizes: what a row's node says of the nodes of its tree, and how the column grows. Assumes nothing.
use Prim.Native.Nat.{ℕ, ◌+◌, ◌≤◌, ◌<◌}
use mathlib.Core.Path.{◌≡◌, refl, sym, ◌∙◌}
use mathlib.Core.Bool.{Bool, true, false}
use mathlib.Core.Logic.{⊎_elim}
use mathlib.Core.List.{List}
use native.Mathlib.Nat.{eq-or-lt_of_le}
use native.Mathlib.Omega.{arith}
use lib.ListN.{length, set, length-set}
use lib.Seq.{get_or-set_same, get_or-set_other}
use lib.Dec.{leb}
use borrow.Author.Tests.{lt-ltb, le-ltb, le-leb, lt-leb}
use Rattle.std.specs.Prelude.{None, Some, IfSome}
use Rattle.std.specs.Bool.{then_some}
use Rattle.definition.proofs.CheckLaws.{try_fails, try_holds}
use Rattle.definition.proofs.RangeLaws.{lowest_is, lowest_none}
use Rattle.definition.proofs.Tests.{below_or_not}
use Rattle.definition.specs.02-Ranges.{lowest}
use Rattle.definition.specs.04-Checks.{accepts, refuses, try, each}
use Rattle.definition.specs.13-Formulas.{nodes}
use Rattle.definition.specs.14-Book.{row_at, tree_in, book, book_rows, fields_fit, bad_formula}
use Rattle.formula_rows.specs.Nodes.{Node, node_of, nodes_of}
use Rattle.formula_book.specs.Sizes.{SizesHeld, SizesTold, GoodBelow, ChildrenHeld, size_at}
use Rattle.definition.proofs.Trees.{fit_shape}
use Rattle.formula_walks.proofs.WalkLaws.{Children, of_leaf, of_said, of_pair, of_body, of_duty, shape_children}
use Rattle.formula_rows.proofs.RowKinds.{shape_nodes}

-- the rows whose sizes are held are good
pub good_row : {s sizes : List ℕ} {n : ℕ} → SizesHeld s sizes n → (j : ℕ) → j < n → bad_formula s (book s) j ≡ false
good_row held j lt = (held j lt).row.good j (omega arith)

pub good_below : {s sizes : List ℕ} {n : ℕ} → SizesHeld s sizes n → n < book_rows s → n < 1024 → GoodBelow s n
good_below held inside few = record { inside = omega arith; few = omega arith; good = good_row held }

-- a row whose fields fit
module _ (s : List ℕ) (k : ℕ) (sizes : List ℕ) (held : SizesHeld s sizes k) (inside : k < book_rows s) (fit : fields_fit (book s) k (row_at s k) ≡ true) where
  children_held : {n : Node} → Children (book s) k n → ChildrenHeld s sizes n
  children_held of_leaf = tt
  children_held (of_said b) = held _ b.lower
  children_held (of_pair a b) = (held _ a.lower, held _ b.lower)
  children_held (of_body b) = held _ b.lower
  children_held (of_duty a b) = (held _ a.lower, held _ b.lower)

  pub kids_held : ChildrenHeld s sizes (node_of (row_at s k))
  kids_held = children_held (shape_children (fit_shape s k fit inside))

  pub node_size : nodes_of (book s) (node_of (row_at s k)) ≡ nodes (tree_in (book s) k)
  node_size = sym (shape_nodes (fit_shape s k fit inside))

-- the size of a row, as its tests come out
pub misfit_size : (s : List ℕ) (k : ℕ) → fields_fit (book s) k (row_at s k) ≡ false → None ≡ size_at s k
unfolding size_at bad_formula
misfit_size s k e = rw e

pub fit_size : (s : List ℕ) (k : ℕ) → fields_fit (book s) k (row_at s k) ≡ true → let n = nodes (tree_in (book s) k) in (then_some (leb n 64) n ≡ size_at s k) × IfSome (then_some (leb n 64) n) (λ size. size ≤ 64)
unfolding size_at bad_formula
fit_size s k e = let n = nodes (tree_in (book s) k) in
    ⊎_elim (λ lt. rw (e, lt-leb n 64 lt, lt-ltb 64 n lt) (refl, tt)) (λ le. rw (e, le-leb n 64 le, le-ltb 64 n le) (refl, le)) (below_or_not 64 n)

-- a row without a size is bad, and one with a size is good
pub none_bad : (s : List ℕ) (k : ℕ) → None ≡ size_at s k → bad_formula s (book s) k ≡ true
unfolding size_at
none_bad s k e = go (bad_formula s (book s) k) refl
  where
    go : (b : Bool) → bad_formula s (book s) k ≡ b → b ≡ true
    go true q = refl
    go false q = let z : None ≡ Some (nodes (tree_in (book s) k)) = rw q at e in cc

pub some_good : (s : List ℕ) (k size : ℕ) → Some size ≡ size_at s k → (bad_formula s (book s) k ≡ false) × (size ≡ nodes (tree_in (book s) k))
unfolding size_at
some_good s k size e = go (bad_formula s (book s) k) refl
  where
    go : (b : Bool) → bad_formula s (book s) k ≡ b → (b ≡ false) × (size ≡ nodes (tree_in (book s) k))
    go true q = let z : Some size ≡ None = rw q at e in cc
    go false q = let z : Some size ≡ Some (nodes (tree_in (book s) k)) = rw q at e in (refl, cc)

-- the column as it is lent, and with one row more
pub told_none : (s lent : List ℕ) → SizesTold s lent lent 0
told_none s lent = record { held = λ j lt. absurd (omega arith); as_long = refl; others = λ j le. refl }

pub told_more :
    {s lent sizes : List ℕ} {k : ℕ} (size : ℕ) → SizesTold s lent sizes k → k < book_rows s → k < 1024 → k < length sizes → Some size ≡ size_at s k →
    SizesTold s lent (set sizes k size) (k + 1)
told_more {s} {lent} {sizes} {k} size t inside few there is =
    let h = some_good s k size is in
    let good : (j : ℕ) → j ≤ k → bad_formula s (book s) j ≡ false = λ j le. ⊎_elim (λ q. rw q h.0) (good_row t.held j) (eq-or-lt_of_le le) in
    record {
      held =
          λ j lt.
          record {
            row = record { good = λ i le. good i (omega arith); inside = omega arith; few = omega arith };
            there = omega (arith, length-set sizes k size);
            size =
                ⊎_elim (λ q. rw q (get_or-set_same sizes k size 0 there ∙ h.1))
                (λ l. get_or-set_other sizes k j size 0 (omega arith) ∙ (t.held j l).size) (eq-or-lt_of_le (omega arith));
          };
      as_long = length-set sizes k size ∙ t.as_long;
      others = λ j le. get_or-set_other sizes k j size 0 (omega arith) ∙ t.others j (omega arith);
    }

-- check 3, where the first k rows have sizes: row k is bad, or there are no more
module _ {s lent sizes : List ℕ} {k : ℕ} (t : SizesTold s lent sizes k) where
  abbrev Lowest_told : Type 0
  Lowest_told = SizesTold s lent sizes (lowest (bad_formula s (book s)) (book_rows s) 0)

  pub rows_refused : k < book_rows s → None ≡ size_at s k → (refuses 3 k ≡ try (each 3 (book_rows s) (bad_formula s (book s)))) × Lowest_told
  rows_refused lt e =
      let is = lowest_is (bad_formula s (book s)) (book_rows s) 0 k (omega arith) (omega arith) (none_bad s k e) (λ j from below. good_row t.held j below) in
      (sym (try_fails _ 3 k (refl, (lt, none_bad s k e, good_row t.held))), rw is t)

  pub rows_passed : book_rows s ≡ k → (accepts tt ≡ try (each 3 (book_rows s) (bad_formula s (book s)))) × Lowest_told
  rows_passed e =
      let is : lowest (bad_formula s (book s)) (book_rows s) 0 ≡ k = omega (arith, e, lowest_none (bad_formula s (book s)) (book_rows s) 0 (λ j from to. good_row t.held j (omega arith))) in
      (sym (try_holds (each 3 (book_rows s) (bad_formula s (book s))) (λ j lt. good_row t.held j (omega arith))), rw is t)
