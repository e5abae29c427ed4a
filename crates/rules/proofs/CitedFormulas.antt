-- What a step cites of an admitted file, and the rules that cite: labels, conditions and obligations name formulas of the book. Assumes nothing.
use Prim.Native.Nat.{ℕ, ◌<◌}
use mathlib.Core.Path.{◌≡◌, refl, sym, ap, ◌∙◌}
use mathlib.Core.Bool.{Bool, true, false, cond, ◌&&◌}
use mathlib.Core.Option.{none, some}
use mathlib.Core.List.{List, [], ◌∷◌}
use native.Mathlib.Omega.{arith}
use lib.Dec.{eqb}
use borrow.Author.Tests.{eq-eqb, ne_eqb, eqb-true}
use Rattle.definition.specs.01-Words.{absent}
use Rattle.definition.specs.13-Formulas.{Formula, same, implies, after}
use Rattle.definition.specs.14-Book.{tree_in, book as trees}
use Rattle.formula_book.proofs.Laws.{admitted_few}
use Rattle.definition.specs.11-Layout.{condition_part, obligation_part, label_part, count}
use Rattle.definition.specs.15-Records.{formulas, condition_formula, obligation_mark, obligation_action, label_mark, label_formula, is_duty}
use Rattle.definition.specs.17-Case.{reading, case_of}
use Rattle.case_file.proofs.Laws.{label_named, obligation_named, condition_named}
use Rattle.definition.specs.21-Rules.{first, is_that, suppose, condition_row, implies_intro, duty_intro, duty_by_obligation}
use Rattle.case_file.specs.LentCase.{Lent, Numbered}
use Rattle.case_file.proofs.LentCaseLaws.{lent_trees, numbered}
use Rattle.rules.proofs.ComparedRows.{same_number}

module _ {s b : List ℕ} (lent : Lent s b) where
  -- A number names the same tree in the book as in the file.
  pub named : {n m : ℕ} → n ≡ m → tree_in (trees b) n ≡ tree_in (formulas s) m
  named e = cc (lent_trees lent, e)

  pub label_numbered : {k n : ℕ} → k < count s label_part → n ≡ label_formula s k → Numbered b n
  label_numbered {k} inside is = rw is (numbered lent (label_named s lent.admitted k inside))

  pub obligation_numbered : {k n : ℕ} → k < count s obligation_part → n ≡ obligation_action s k → Numbered b n
  obligation_numbered {k} inside is = rw is (numbered lent (obligation_named s lent.admitted k inside))

  -- Label k, with its mark m and the number n of its formula as they were read.
  module _ {k m n : ℕ} (inside : k < count s label_part) (mark : m ≡ label_mark s k) (is : n ≡ label_formula s k) where
    pub supposed : {f : ℕ} → Numbered b f → m ≡ 0 → eqb f n ≡ suppose (case_of s) (tree_in (trees b) f) k []
    unfolding suppose case_of
    supposed {f} nf zero = rw (eq-eqb (label_mark s k) 0 (sym mark ∙ zero)) (sym (same_number nf (label_numbered inside is)) ∙ ap (same (tree_in (trees b) f)) (named is))

    pub implied : {q : Bool} (f p : Formula) → m ≡ 0 → q ≡ same f (implies (tree_in (trees b) n) p) → q ≡ implies_intro (case_of s) f k (p ∷ [])
    unfolding implies_intro first case_of
    implied f p zero e = rw (eq-eqb (label_mark s k) 0 (sym mark ∙ zero)) (e ∙ ap (λ (g : Formula). same f (implies g p)) (named is))

    pub introduced : {q : Bool} (f p : Formula) → q ≡ is_duty m && same f (after m (tree_in (trees b) n) p) → q ≡ duty_intro (case_of s) f k (p ∷ [])
    unfolding duty_intro first case_of
    introduced f p e = rw (← mark, ← named is) e

  -- A label of another mark.
  module _ (k : ℕ) {m : ℕ} (mark : m ≡ label_mark s k) (other : m ≡ 0 → ⊥) where
    pub not_supposed : (f : Formula) → false ≡ suppose (case_of s) f k []
    unfolding suppose case_of
    not_supposed f = rw (ne_eqb (label_mark s k) 0 (λ e. other (mark ∙ e)))

    pub not_implied : (f p : Formula) → false ≡ implies_intro (case_of s) f k (p ∷ [])
    unfolding implies_intro case_of
    not_implied f p = rw (ne_eqb (label_mark s k) 0 (λ e. other (mark ∙ e)))

  -- Obligation k.
  module _ {k m n : ℕ} (inside : k < count s obligation_part) (mark : m ≡ obligation_mark s k) (is : n ≡ obligation_action s k) where
    pub done_by_obligation : {q : Bool} (f p : Formula) → q ≡ is_duty m && same p (after m (tree_in (trees b) n) f) → q ≡ duty_by_obligation (case_of s) f k (p ∷ [])
    unfolding duty_by_obligation first case_of
    done_by_obligation f p e = rw (← mark, ← named is) e

  -- Condition k: a number that is absent is no formula's.
  pub certified : {f k n : ℕ} → Numbered b f → k < count s condition_part → n ≡ condition_formula s k → eqb f n ≡ condition_row (case_of s) (tree_in (trees b) f) k []
  unfolding condition_row case_of reading is_that
  certified {f} {k} {n} nf inside is = rw is (go (eqb (condition_formula s k) absent) refl)
    where
      go :
          (t : Bool) → eqb (condition_formula s k) absent ≡ t →
          eqb f (condition_formula s k) ≡ is_that (tree_in (trees b) f) (cond t none (some (tree_in (formulas s) (condition_formula s k))))
      go true e =
          let h = eqb-true (condition_formula s k) absent e in
          let small = nf.below in
          ne_eqb f (condition_formula s k) (λ q. omega (arith, h, q, small, admitted_few b nf.book))
      go false e =
          sym (same_number nf (numbered lent (condition_named s lent.admitted k inside e)))
          ∙ ap (same (tree_in (trees b) f)) (named refl)
