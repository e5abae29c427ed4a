-- The table of the rows named: none at first, and with one obligation more. Assumes nothing.
use Prim.Native.Nat.{ℕ, ◌+◌, ◌<◌}
use mathlib.Core.Bool.{Bool, true, false, ◌||◌, and-false, or-true, or-false}
use mathlib.Core.Path.{◌≡◌, refl, sym, ap, ◌∙◌}
use mathlib.Core.Option.{some}
use mathlib.Core.List.{List}
use lib.ListN.{length, length-set, length-replicate, get_or, set, replicate}
use lib.Dec.{eqb}
use borrow.Author.Tests.{eq-eqb, ne_eqb, eqb-true, eqb-false}
use Rattle.definition.proofs.RangeLaws.{any_last}
use Rattle.definition.specs.01-Words.{absent}
use Rattle.definition.specs.02-Ranges.{any, update}
use Rattle.definition.specs.13-Formulas.{each_use}
use Rattle.definition.specs.15-Records.{obligation_mark, obligation_row}
use Rattle.definition.specs.17-Case.{Case, row_named, case_of}
use Rattle.definition.specs.23-Duties.{is_row, uses_up, used_up_before, names_again}
use Rattle.tables.proofs.Assignments.{marks_set, get_d_replicated}
use Rattle.tables.specs.Sets.{marks}
use Rattle.duties.specs.NamedRows.{NamedBefore}

-- No row is named at first.
pub none_named : (c : Case) → NamedBefore c 0 (replicate 1024 false)
unfolding marks any
none_named c = record { long = length-replicate 1024 false; flag = λ k. get_d_replicated 1024 false k }

-- With one obligation more.
module _ {c : Case} {o : ℕ} {t : List Bool} (h : NamedBefore c o t) where
  flags_more : {u : List Bool} → length u ≡ length t → ((k : ℕ) → marks u k ≡ marks t k || uses_up c k o) → NamedBefore c (o + 1) u
  flags_more e f = record { long = e ∙ h.long; flag = λ k. f k ∙ ap (λ a. a || uses_up c k o) (h.flag k) ∙ sym (any_last (uses_up c k) o) }

  -- It uses up no row; its row is marked.
  pub uses_none : ((k : ℕ) → uses_up c k o ≡ false) → NamedBefore c (o + 1) t
  uses_none up = flags_more refl (λ k. rw (up k) (sym (or-false (marks t k))))

  module _ (r : ℕ) (mark : (c.obligation o).mark ≡ each_use) (names : (c.obligation o).row ≡ some r) where
    own_row : (k : ℕ) → uses_up c k o ≡ eqb r k
    unfolding uses_up is_row
    own_row k = rw (eq-eqb _ each_use mark, names)

    pub again_is : marks t r ≡ names_again c o
    unfolding names_again used_up_before
    again_is = rw (eq-eqb _ each_use mark, names) (h.flag r)

    pub row_marked : r < length t → NamedBefore c (o + 1) (set t r true)
    unfolding update
    row_marked lt = flags_more (length-set t r true) (λ k. rw (own_row k, marks_set t r true lt) (go k (eqb r k) refl))
      where
        go : (k : ℕ) (b : Bool) → eqb r k ≡ b → update (marks t) r true k ≡ marks t k || b
        go k true q = rw (eq-eqb k r (sym (eqb-true r k q))) (sym (or-true (marks t k)))
        go k false q = rw (ne_eqb k r (λ e. eqb-false r k q (sym e))) (sym (or-false (marks t k)))

-- The obligation as the code reads it: of another mark, without a row, or with this one.
module _ (s : List ℕ) (o : ℕ) {t : List Bool} (h : NamedBefore (case_of s) o t) where
  pub other_mark : {m : ℕ} → m ≡ obligation_mark s o → (m ≡ each_use → ⊥) → (false ≡ names_again (case_of s) o) × NamedBefore (case_of s) (o + 1) t
  unfolding case_of uses_up names_again
  other_mark e other = let is = ne_eqb (obligation_mark s o) each_use (λ q. other (e ∙ q)) in (rw is, uses_none h (λ k. rw is))

  pub no_row : {n : ℕ} → n ≡ obligation_row s o → n ≡ absent → (false ≡ names_again (case_of s) o) × NamedBefore (case_of s) (o + 1) t
  unfolding case_of row_named uses_up is_row names_again used_up_before
  no_row e gone = let is = eq-eqb (obligation_row s o) absent (sym e ∙ gone) in (rw is (sym (and-false (eqb (obligation_mark s o) each_use))), uses_none h (λ k. rw is (and-false (eqb (obligation_mark s o) each_use))))

  module _ {m n : ℕ} (mark : m ≡ obligation_mark s o) (each : m ≡ each_use) (row : n ≡ obligation_row s o) (there : n ≡ absent → ⊥) where
    names : ((case_of s).obligation o).row ≡ some n
    unfolding case_of row_named
    names = rw (ne_eqb (obligation_row s o) absent (λ q. there (row ∙ q))) (ap some (sym row))

    is_each : ((case_of s).obligation o).mark ≡ each_use
    unfolding case_of
    is_each = sym mark ∙ each

    -- its own row is marked, and the mark that was there tells
    pub row_told : {b m : Bool} → b ≡ get_or t n false → m ≡ true → n < length t → (b ≡ names_again (case_of s) o) × NamedBefore (case_of s) (o + 1) (set t n m)
    unfolding marks
    row_told was set lt = rw set (was ∙ again_is h n is_each names, row_marked h n is_each names lt)
