-- Whether a number names a formula of some kind that also passes a test. Beyond an admitted book it names none; else the row tells the kind, and the test is left. Assumes nothing.
use Prim.Native.Nat.{ℕ, ◌<◌}
use mathlib.Core.Path.{◌≡◌, refl, sym, ap, ◌∙◌}
use mathlib.Core.Bool.{Bool, false, true, ◌&&◌}
use mathlib.Core.List.{List}
use lib.Dec.{eqb, ltb, leb}
use borrow.Author.Tests.{ltb-true, ltb-false}
use Rattle.definition.specs.13-Formulas.{Formula, no_formula, is_policy, is_action, is_predicate}
use Rattle.definition.specs.14-Book.{row_at, book_rows, tree_in, book}
use Rattle.formula_book.specs.GoodRows.{GoodRow}
use Rattle.formula_book.specs.AdmittedBooks.{AdmittedBook}
use Rattle.formula_book.proofs.Laws.{admitted_row, row_policy, row_action, row_predicate, beyond}

-- A class of formulas that a test of the row's kind tells; `no_formula` is not in it.
pub record Kind (test : ℕ → Bool) (is : Formula → Bool) : Type 0 where
  none : is no_formula ≡ false
  told : (s : List ℕ) (k : ℕ) → GoodRow s k → is (tree_in (book s) k) ≡ test (row_at s k).kind

pub policies : Kind (λ n. ltb n 8) is_policy
unfolding is_policy
policies = record { none = refl; told = row_policy }

pub actions : Kind (λ n. leb 8 n) is_action
unfolding is_action
actions = record { none = refl; told = row_action }

pub predicates : Kind (λ n. eqb n 0) is_predicate
unfolding is_predicate
predicates = record { none = refl; told = row_predicate }

-- Number k, in an admitted book.
module _ (s : List ℕ) (k : ℕ) (passes : AdmittedBook s) where
  -- The row of a number of the book may be asked about.
  pub row_good : k < book_rows s → GoodRow s k
  row_good lt = admitted_row s passes k lt

  -- It names a formula of the class that passes a further test, just if its row does.
  pub number_told : {test : ℕ → Bool} {is : Formula → Bool} → Kind test is → (also : Bool) → ltb k (book_rows s) && test (row_at s k).kind && also ≡ is (tree_in (book s) k) && also
  number_told {test} {is} kind also = go (ltb k (book_rows s)) refl
    where
      go : (b : Bool) → ltb k (book_rows s) ≡ b → b && test (row_at s k).kind && also ≡ is (tree_in (book s) k) && also
      go true e = ap (λ t. t && also) (sym (kind.told s k (row_good (ltb-true k (book_rows s) e))))
      go false e = ap (λ t. t && also) (sym (ap is (beyond s k (ltb-false k (book_rows s) e)) ∙ kind.none))
