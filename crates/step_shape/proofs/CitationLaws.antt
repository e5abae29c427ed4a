-- Checks 14 to 16 of what a step cites, by what the rule's argument names. Assumes nothing.
use Prim.Native.Nat.{ℕ, ◌<◌}
use mathlib.Core.Path.{◌≡◌, refl, sym}
use mathlib.Core.Bool.{Bool, true, false, cond, not, ◌||◌, ◌&&◌}
use mathlib.Core.List.{List, [], ◌∷◌}
use mathlib.Core.Option.{none, some}
use lib.Dec.{eqb, ltb}
use borrow.Author.Tests.{ltb-true, not-false}
use Rattle.definition.proofs.CheckLaws.{by_number, all_hold, hold_all, in_order_append, skip_behind}
use Rattle.definition.specs.01-Words.{absent}
use Rattle.definition.specs.04-Checks.{accepts, ◌>>◌, single, check, try, in_order}
use Rattle.definition.specs.13-Formulas.{Formula}
use Rattle.definition.specs.14-Book.{tree_in}
use Rattle.definition.specs.15-Records.{formulas, condition_formula}
use Rattle.definition.specs.17-Case.{Case, case_of, reading}
use Rattle.definition.specs.21-Rules.{Names, nothing, a_label, a_condition, a_row, an_obligation, a_term}
use Rattle.definition.specs.22-Steps.{cites_absent, cites_nothing, cites_hidden, cites_struck, is_a_row, is_none, is_hidden, is_struck, citation_checks}
use Rattle.case_parts.specs.ShapedSteps.{CitedEntry}
use Rattle.step_shape.specs.EntryChecks.{entry_checks}

-- An entry that is at no fault is there.
pub entry_there : (n a k : ℕ) → accepts tt ≡ in_order (entry_checks n a k) → a < n
unfolding entry_checks
entry_there n a k e = ltb-true a n (not-false (ltb a n) (all_hold (entry_checks n a k) (sym e)).1.0)

-- Nothing that a step cites is at fault.
pub cited_entry : {c : Case} {n : Names} {a : ℕ} (k : ℕ) → accepts tt ≡ in_order (citation_checks c n a k) → CitedEntry c n a
unfolding citation_checks
cited_entry {c} {n} {a} k e =
    let checks = citation_checks c n a k in
    let h = all_hold checks (sym e) in
    record { present = (by_number 14 checks h).0; there = (by_number 15 checks h).0; seen = (by_number 16 checks h).0; unstruck = (by_number 14 checks h).1.0 }

module _ (c : Case) (a k : ℕ) where
  pub label_checks : in_order (entry_checks c.labels a k) ≡ in_order (citation_checks c a_label a k)
  unfolding citation_checks cites_absent cites_nothing cites_hidden cites_struck is_a_row entry_checks
  label_checks = sym (skip_behind (entry_checks c.labels a k) (single 16 k false ∷ single 14 k false ∷ []) (refl, (refl, tt)))

  pub obligation_checks : in_order (entry_checks c.obligations a k) ≡ in_order (citation_checks c an_obligation a k)
  unfolding citation_checks cites_absent cites_nothing cites_hidden cites_struck is_a_row entry_checks
  obligation_checks = sym (skip_behind (entry_checks c.obligations a k) (single 16 k false ∷ single 14 k false ∷ []) (refl, (refl, tt)))

  pub term_checks : in_order (single 14 k (eqb a absent) ∷ []) ≡ in_order (citation_checks c a_term a k)
  unfolding citation_checks cites_absent cites_nothing cites_hidden cites_struck is_a_row
  term_checks = sym (skip_behind (single 14 k (eqb a absent) ∷ []) (single 15 k false ∷ single 16 k false ∷ single 14 k false ∷ []) (refl, (refl, (refl, tt))))

  pub nothing_checks : accepts tt ≡ in_order (citation_checks c nothing a k)
  unfolding citation_checks cites_absent cites_nothing cites_hidden cites_struck is_a_row
  nothing_checks = sym (hold_all (citation_checks c nothing a k) (refl, (refl, (refl, (refl, tt)))))

  -- A condition's entry, and then its reading.
  pub condition_checks : ◌>>◌ (in_order (entry_checks c.conditions a k)) (in_order (single 14 k (is_none (c.condition a)) ∷ [])) ≡ in_order (citation_checks c a_condition a k)
  unfolding citation_checks cites_absent cites_nothing cites_hidden cites_struck is_a_row entry_checks in_order try check ◌>>◌
  condition_checks = go (eqb a absent) (ltb a c.conditions) (is_none (c.condition a))
    where
      go :
          (b d n : Bool) →
          ◌>>◌ (in_order (single 14 k b ∷ single 15 k (not d) ∷ [])) (in_order (single 14 k n ∷ []))
          ≡ in_order (single 14 k (b || (d && n)) ∷ single 15 k (not d) ∷ single 16 k false ∷ single 14 k false ∷ [])
      go true d n = refl
      go false false n = refl
      go false true true = refl
      go false true false = refl

  -- A row's entry, and then what the agent sees of it.
  pub row_checks : ◌>>◌ (in_order (entry_checks c.rows a k)) (in_order (single 16 k (is_hidden (c.row a)) ∷ single 14 k (is_struck (c.row a)) ∷ [])) ≡ in_order (citation_checks c a_row a k)
  unfolding citation_checks cites_absent cites_nothing cites_hidden cites_struck is_a_row entry_checks
  row_checks = sym (in_order_append (entry_checks c.rows a k) (single 16 k (is_hidden (c.row a)) ∷ single 14 k (is_struck (c.row a)) ∷ []))

-- A condition has no reading just if its formula is absent.
pub no_reading : (s : List ℕ) (a : ℕ) → is_none ((case_of s).condition a) ≡ eqb (condition_formula s a) absent
unfolding case_of reading is_none
no_reading s a = go (eqb (condition_formula s a) absent) (tree_in (formulas s) (condition_formula s a))
  where
    go : (b : Bool) (f : Formula) → is_none (cond b none (some f)) ≡ b
    go true f = refl
    go false f = refl
