-- Formulas of an admitted book compared by their rows: the row of each form that rules compare with stands for its formula. Assumes nothing.
use Prim.Native.Nat.{ℕ, ◌+◌, ◌*◌, ◌≤◌, ◌<◌}
use mathlib.Core.Path.{◌≡◌, refl, sym, ap, ◌∙◌}
use mathlib.Core.Bool.{Bool}
use mathlib.Core.List.{List}
use native.Mathlib.Omega.{arith}
use lib.ListN.{length}
use lib.Dec.{eqb}
use Rattle.definition.specs.01-Words.{absent}
use Rattle.definition.specs.13-Formulas.{Formula, kind_of, same, predicate, owns, says, and, implies, after}
use Rattle.definition.specs.14-Book.{Row, row_at, book_rows, tree_in, tree_of, book as trees, same_row}
use Rattle.formula_book.specs.GoodRows.{GoodRow}
use Rattle.formula_rows.specs.Meanings.{row_meant}
use Rattle.formula_rows.specs.declared.rows.Row as rows
use Rattle.formula_book.proofs.Laws.{Proper, admitted_row, good_inside, row_is, tree_row, row_same, number_same, predicate_proper, owns_proper, says_proper, and_proper, implies_proper, each_use_proper, once_proper}
use Rattle.definition.proofs.Trees.{Shape}
use Rattle.case_file.specs.LentCase.{Numbered}
use Rattle.rules.specs.Policies.{Tells, StandsFor}

pub lower : {b : List ℕ} {j k : ℕ} → Numbered b k → j < k → Numbered b j
lower n lt = record { book = n.book; below = let h = n.below in omega arith }

pub good_row : {b : List ℕ} {k : ℕ} → Numbered b k → GoodRow b k
good_row {b} {k} n = admitted_row b n.book k n.below

-- Its row may be read.
pub readable : {b : List ℕ} {k : ℕ} → Numbered b k → 8 * k + 8 ≤ length b
readable n = good_inside (good_row n)

-- Its row, as it was read, by its kind.
pub read_shape : {b : List ℕ} {k : ℕ} (r : rows.Row) → Numbered b k → row_meant r ≡ row_at b k → Shape (trees b) k (row_meant r)
read_shape {b} {k} r n is = rw is (row_is b k (good_row n))

pub same_number : {b : List ℕ} {f g : ℕ} → Numbered b f → Numbered b g → same (tree_in (trees b) f) (tree_in (trees b) g) ≡ eqb f g
same_number {b} {f} {g} n m = number_same b n.book f g n.below m.below

-- Its kind is that of the formula.
pub kind_is : {b : List ℕ} {k : ℕ} (r : rows.Row) → Numbered b k → row_meant r ≡ row_at b k → r.kind ≡ kind_of (tree_in (trees b) k)
unfolding row_meant
kind_is {b} {k} r n is = ap (λ (q : Row). q.kind) is ∙ (tree_row b k (good_row n)).kind

-- A proper row tells its formula.
pub tells : {b : List ℕ} (r : Row) → Proper (trees b) (book_rows b) r → Tells b r
tells {b} r proper f m = sym (row_same b m.book f r m.below proper)

-- Formula f, by its row as it was read, is the one that a row stands for just if the rows are equal.
pub row_compared :
    {b : List ℕ} {k : ℕ} {q : Bool} {f : Formula} (own r : rows.Row) → Numbered b k → StandsFor b r f → row_meant own ≡ row_at b k →
    q ≡ same_row (row_meant own) (row_meant r) → q ≡ same (tree_in (trees b) k) f
row_compared {b} {k} own r n t is e =
    e ∙ ap (λ (q : Row). same_row q (row_meant r)) is ∙ t.tells k n ∙ ap (same (tree_in (trees b) k)) t.is

-- The rows that rules compare with stand for their formulas.
module _ {b : List ℕ} {r : rows.Row} where
  stands : {f : Formula} (q : Row) → Proper (trees b) (book_rows b) q → tree_of (trees b) q ≡ f → row_meant r ≡ q → StandsFor b r f
  stands q proper is e = record { is = ap (tree_of (trees b)) e ∙ is; tells = rw e (tells q proper) }

  module _ {x y : ℕ} where
    pub predicate_stands : {c z : ℕ} → row_meant r ≡ record { kind = 0; code = c; x = x; y = y; z = z } → StandsFor b r (predicate c x y z)
    unfolding tree_of
    predicate_stands {c} {z} = stands _ (predicate_proper (trees b) (book_rows b) c x y z) refl

    pub owns_stands : row_meant r ≡ record { kind = 1; code = 0; x = x; y = y; z = absent } → StandsFor b r (owns x y)
    unfolding tree_of
    owns_stands = stands _ (owns_proper (trees b) (book_rows b) x y) refl

    module _ (m : Numbered b y) where
      pub says_stands : {z : ℕ} → row_meant r ≡ record { kind = 2; code = 0; x = x; y = y; z = z } → StandsFor b r (says x (tree_in (trees b) y) z)
      unfolding tree_of
      says_stands {z} = stands _ (says_proper (trees b) (book_rows b) x y z m.below) refl

      -- two formulas of the book
      module _ (n : Numbered b x) where
        pub and_stands : row_meant r ≡ record { kind = 3; code = 0; x = x; y = y; z = absent } → StandsFor b r (and (tree_in (trees b) x) (tree_in (trees b) y))
        unfolding tree_of
        and_stands = stands _ (and_proper (trees b) (book_rows b) x y n.below m.below) refl

        pub implies_stands : row_meant r ≡ record { kind = 5; code = 0; x = x; y = y; z = absent } → StandsFor b r (implies (tree_in (trees b) x) (tree_in (trees b) y))
        unfolding tree_of
        implies_stands = stands _ (implies_proper (trees b) (book_rows b) x y n.below m.below) refl

        pub each_use_stands : row_meant r ≡ record { kind = 6; code = 0; x = x; y = y; z = absent } → StandsFor b r (after 1 (tree_in (trees b) x) (tree_in (trees b) y))
        unfolding tree_of
        each_use_stands = stands _ (each_use_proper (trees b) (book_rows b) x y n.below m.below) refl

        pub once_stands : row_meant r ≡ record { kind = 7; code = 0; x = x; y = y; z = absent } → StandsFor b r (after 2 (tree_in (trees b) x) (tree_in (trees b) y))
        unfolding tree_of
        once_stands = stands _ (once_proper (trees b) (book_rows b) x y n.below m.below) refl
