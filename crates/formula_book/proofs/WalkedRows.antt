-- Rows that may be walked: a policy below the row that check 3 looks at, and a row of which callers ask. Its kind tells which it is. Assumes nothing.
use Prim.Native.Nat.{ℕ, ◌+◌, ◌*◌, ◌≤◌, ◌<◌}
use mathlib.Core.Path.{◌≡◌, refl, sym, ap, ◌∙◌}
use mathlib.Core.Bool.{Bool, true, false, not}
use mathlib.Core.List.{List}
use lib.ListN.{length}
use native.Mathlib.Omega.{arith}
use lib.Dec.{ltb, leb}
use borrow.Author.Tests.{ltb-true, ltb-false, lt-ltb, le-leb, lt-leb}
use Rattle.definition.proofs.Tests.{and_true}
use Rattle.definition.proofs.Trees.{Shape, row_shape}
use Rattle.definition.specs.13-Formulas.{Formula, is_policy, is_action}
use Rattle.definition.specs.14-Book.{Row, row_at, tree_in, book, book_rows, policy_below, action_below}
use Rattle.formula_book.specs.Sizes.{GoodBelow}
use Rattle.formula_book.specs.GoodRows.{GoodRow}
use Rattle.formula_rows.proofs.RowKinds.{shape_policy, shape_action}
use Rattle.formula_rows.specs.Meanings.{row_meant}
use Rattle.formula_rows.specs.declared.rows.Row as rows
use Rattle.formula_walks.specs.WalkRows.{WalkRow}

-- a number that is not below is at least
not_below : (a b : ℕ) → not (ltb a b) ≡ leb b a
not_below a b = go (ltb a b) refl
  where
    go : (t : Bool) → ltb a b ≡ t → not t ≡ leb b a
    go true e = sym (lt-leb b a (ltb-true a b e))
    go false e = sym (le-leb b a (ltb-false a b e))

module _ (s : List ℕ) (k : ℕ) (g : GoodBelow s k) where
  shape_below : (n : ℕ) → n < k → Shape (book s) n (row_at s n)
  shape_below n lt = row_shape s n (g.good n lt) (omega (arith, g.inside))

  pub policy_below_lem : (n : ℕ) (r : rows.Row) → n < k → row_meant r ≡ row_at s n → ltb r.kind 8 ≡ policy_below (book s) k n
  unfolding policy_below row_meant
  policy_below_lem n r lt e =
      rw (lt-ltb n k lt) (ap (λ (q : Row). ltb q.kind 8) e ∙ sym (shape_policy (shape_below n lt)))

  pub action_below_lem : (n : ℕ) (r : rows.Row) → n < k → row_meant r ≡ row_at s n → not (ltb r.kind 8) ≡ action_below (book s) k n
  unfolding action_below row_meant
  action_below_lem n r lt e =
      rw (lt-ltb n k lt) (not_below r.kind 8 ∙ ap (λ (q : Row). leb 8 q.kind) e ∙ sym (shape_action (shape_below n lt)))

  -- a policy below row k may be walked
  pub walk_below : (n : ℕ) → policy_below (book s) k n ≡ true → WalkRow is_policy s n 0
  unfolding policy_below
  walk_below n e =
      let h = and_true (ltb n k) (is_policy (tree_in (book s) n)) e in
      let lt = ltb-true n k h.0 in
      record {
        good = λ j l. g.good j (omega arith);
        inside = omega (arith, g.inside);
        kind = h.1;
        deep = omega (arith, g.few);
      }

-- a row of which callers may ask is a policy or an action, by its kind, and may be walked
module _ (s : List ℕ) (row : ℕ) (g : GoodRow s row) where
  shape_here : Shape (book s) row (row_at s row)
  shape_here = row_shape s row (g.good row (omega arith)) g.inside

  pub walks : {is : Formula → Bool} → is (tree_in (book s) row) ≡ true → WalkRow is s row 0
  walks e = record { good = g.good; inside = g.inside; kind = e; deep = omega (arith, g.few) }

  pub policy_here : (r : rows.Row) → row_meant r ≡ row_at s row → r.kind < 8 → WalkRow is_policy s row 0
  unfolding row_meant
  policy_here r e lt = walks (shape_policy shape_here ∙ ap (λ (q : Row). ltb q.kind 8) (sym e) ∙ lt-ltb r.kind 8 lt)

  pub action_here : (r : rows.Row) → row_meant r ≡ row_at s row → 8 ≤ r.kind → WalkRow is_action s row 0
  unfolding row_meant
  action_here r e le = walks (shape_action shape_here ∙ ap (λ (q : Row). leb 8 q.kind) (sym e) ∙ le-leb 8 r.kind le)

-- its eight bytes lie in the book
pub good_inside : {s : List ℕ} {row : ℕ} → GoodRow s row → 8 * row + 8 ≤ length s
unfolding book_rows
good_inside g = omega (arith, g.inside)
