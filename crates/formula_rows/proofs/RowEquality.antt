-- Laws of `same_row`: that the same rows are equal, and that `==` answers what it does. Assumes nothing.
use mathlib.Core.Path.{◌≡◌, refl}
use mathlib.Core.Bool.{Bool, true, false, ◌&&◌}
use lib.Dec.{eqb}
use borrow.Author.Tests.{eqb-true}
use Rattle.definition.proofs.Tests.{and_true}
use Rattle.definition.specs.14-Book.{Row, same_row}
use Rattle.formula_rows.specs.Meanings.{row_meant}
use Rattle.formula_rows.specs.declared.rows.Row as rows

pub same_equal : (q r : Row) → same_row q r ≡ true → q ≡ r
unfolding same_row
same_equal q r e =
    let z = and_true (eqb q.kind r.kind && eqb q.code r.code && eqb q.x r.x && eqb q.y r.y) _ e in
    let y = and_true (eqb q.kind r.kind && eqb q.code r.code && eqb q.x r.x) _ z.0 in
    let x = and_true (eqb q.kind r.kind && eqb q.code r.code) _ y.0 in
    let heads = and_true (eqb q.kind r.kind) _ x.0 in
    λ i. record {
      kind = eqb-true q.kind r.kind heads.0 i;
      code = eqb-true q.code r.code heads.1 i;
      x = eqb-true q.x r.x x.1 i;
      y = eqb-true q.y r.y y.1 i;
      z = eqb-true q.z r.z z.1 i;
    }

grouped : (p q r s t : Bool) → (p && (q && (r && (s && t)))) ≡ (p && q && r && s && t)
grouped true true true true t = refl
grouped true true true false t = refl
grouped true true false s t = refl
grouped true false r s t = refl
grouped false q r s t = refl

-- What `==` answers of two rows, field by field, is what the definition's test answers.
pub rows_equal :
    (a b : rows.Row) → (eqb a.kind b.kind && (eqb a.code b.code && (eqb a.x b.x && (eqb a.y b.y && eqb a.z b.z)))) ≡ same_row (row_meant a) (row_meant b)
unfolding same_row row_meant
rows_equal a b = grouped (eqb a.kind b.kind) (eqb a.code b.code) (eqb a.x b.x) (eqb a.y b.y) (eqb a.z b.z)
