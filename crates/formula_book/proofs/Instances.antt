-- An action is no policy with a term put in. Assumes nothing.
use Prim.Native.Nat.{ℕ, ◌≤◌}
use mathlib.Core.Path.{◌≡◌, sym, ap, ◌∙◌}
use mathlib.Core.Bool.{true, false}
use mathlib.Core.List.{List}
use lib.Dec.{ltb}
use borrow.Author.Tests.{le-ltb}
use Rattle.definition.proofs.Tests.{never_true, not_both}
use Rattle.definition.proofs.TreeEquality.{same_true}
use Rattle.definition.specs.12-Terms.{Sort}
use Rattle.definition.specs.13-Formulas.{Formula, same, put, is_policy}
use Rattle.definition.specs.14-Book.{Row, row_at, tree_in, book}
use Rattle.formula_book.proofs.Laws.{row_policy, put_policy}
use Rattle.formula_book.specs.GoodRows.{GoodRow}
use Rattle.formula_rows.specs.Meanings.{row_meant}
use Rattle.formula_rows.specs.declared.rows.Row as rows

pub no_instance_lem :
    (s : List ℕ) (row : ℕ) → GoodRow s row → (r : rows.Row) → row_meant r ≡ row_at s row → 8 ≤ r.kind →
    (σ : Sort) (t : ℕ) (body : Formula) → is_policy body ≡ true → false ≡ same (tree_in (book s) row) (put σ t 0 body)
unfolding row_meant
no_instance_lem s row g r is le σ t body policy =
    let f = tree_in (book s) row in
    let action : is_policy f ≡ false = row_policy s row g ∙ ap (λ (q : Row). ltb q.kind 8) (sym is) ∙ le-ltb r.kind 8 le in
    sym (never_true (same f (put σ t 0 body)) (λ e. not_both (ap is_policy (same_true f (put σ t 0 body) e) ∙ put_policy σ t 0 body ∙ policy) action))
