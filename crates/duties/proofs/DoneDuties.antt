-- What the table of views says of an obligation: whether it was done. Assumes nothing.
use Prim.Native.Nat.{ℕ, ◌<◌}
use mathlib.Core.Path.{◌≡◌, sym, ◌∙◌}
use mathlib.Core.Bool.{false}
use mathlib.Core.List.{List}
use lib.ListN.{get_or}
use lib.Dec.{eqb}
use borrow.Author.Tests.{eq-eqb, ne_eqb}
use Rattle.definition.specs.01-Words.{absent}
use Rattle.definition.specs.11-Layout.{formula_part, count}
use Rattle.definition.specs.13-Formulas.{Formula}
use Rattle.definition.specs.14-Book.{tree_in}
use Rattle.definition.specs.15-Records.{log_of, rows_in, formulas, bad_row_named}
use Rattle.definition.specs.16-Views.{RowView, shows}
use Rattle.definition.specs.17-Case.{row_named, case_of}
use Rattle.definition.specs.23-Duties.{carries, done_by}
use Rattle.formula_book.proofs.Laws.{number_same}
use Rattle.case_file.specs.LentCase.{CaseLent}
use Rattle.case_file.specs.Seen.{code_view}
use Rattle.case_file.proofs.Laws.{named_inside, shown_named}
use Rattle.case_file.proofs.LentCaseLaws.{lent_trees, numbered, row_looked}

-- No row is named.
pub not_named : (s : List ℕ) (n : ℕ) (f : Formula) → n ≡ absent → false ≡ done_by (case_of s) (row_named n) f
unfolding row_named done_by
not_named s n f e = rw (eq-eqb n absent e)

module _ {s b v : List ℕ} (lent : CaseLent s b v) (n : ℕ) (good : bad_row_named (rows_in (log_of s)) n ≡ false) (there : n ≡ absent → ⊥) where
  pub inside : n < rows_in (log_of s)
  inside = named_inside (rows_in (log_of s)) n good there

  -- A row is named, and w is what the table has for it.
  module _ {w : RowView} (is : w ≡ code_view (formulas s) (get_or v n 0)) where
    view_is : (case_of s).row n ≡ w
    view_is = row_looked s b v n lent inside w is

    pub done_viewed : (f : Formula) → carries w f ≡ done_by (case_of s) (row_named n) f
    unfolding row_named done_by
    done_viewed f = rw (ne_eqb n absent there, view_is)

  -- It is the action that is shown just if the numbers are equal.
  pub done_shown :
      (k a : ℕ) → shows (tree_in (formulas s) k) ≡ code_view (formulas s) (get_or v n 0) → a < count s formula_part →
      eqb k a ≡ done_by (case_of s) (row_named n) (tree_in (formulas s) a)
  unfolding carries case_of
  done_shown k a is below =
      let shown = numbered lent.lent (shown_named s lent.lent.admitted n k inside (view_is is)) in
      let own = numbered lent.lent below in
      let same_is = number_same b lent.lent.booked.book k a shown.below own.below in
      sym (rw (lent_trees lent.lent) at same_is) ∙ done_viewed is (tree_in (formulas s) a)
