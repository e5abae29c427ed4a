-- The formulas that an admitted file's records name are formulas of its book. By checks 5 to 9: a number beyond the book names no formula, and that is no policy, no action and no predicate. Assumes nothing.
use Prim.Native.Nat.{ℕ, ◌<◌}
use mathlib.Core.Path.{◌≡◌, refl, sym, ap, ◌∙◌}
use mathlib.Core.Bool.{Bool, true, false, not, ◌&&◌, ◌||◌}
use mathlib.Core.Logic.{⊎_elim}
use mathlib.Core.List.{List}
use lib.Dec.{eqb, ltb}
use borrow.Author.Tests.{eqb-true, ltb-true, not-false}
use Rattle.definition.specs.01-Words.{absent}
use Rattle.definition.specs.04-Checks.{accepts}
use Rattle.definition.proofs.Tests.{and_true, or_false, or_true, not_both}
use Rattle.definition.proofs.DutyNumbers.{good_duty, good_audit}
use Rattle.definition.proofs.ViewLaws.{row_shows}
use Rattle.definition.specs.13-Formulas.{Formula, no_formula, is_policy, is_action, is_predicate, closed, is_ground}
use Rattle.definition.specs.14-Book.{tree_in}
use Rattle.formula_book.proofs.Laws.{number_inside}
use Rattle.definition.specs.11-Layout.{formula_part, condition_part, obligation_part, label_part, part, count, agent_of, action_of}
use Rattle.definition.specs.15-Records.{log_of, rows_in, formulas, row_action, condition_formula, obligation_mark, obligation_action, obligation_due, obligation_row, label_mark, label_formula, is_ground_action, is_duty, bad_action, bad_log_row, bad_condition, bad_row_named, bad_obligation, bad_label}
use Rattle.definition.specs.16-Views.{shows, row_view}
use Rattle.definition.specs.18-Admission.{admission}
use Rattle.definition.proofs.AdmissionLaws.{admitted_parted, admitted_logged, logged_rows, admitted_condition, admitted_obligation, admitted_label, admitted_audit}
use Rattle.case_file.proofs.AdmissionBranches.{rows_are}

-- A row that is named, and well, is one of the log.
pub named_inside : (rows n : ℕ) → bad_row_named rows n ≡ false → (n ≡ absent → ⊥) → n < rows
unfolding bad_row_named
named_inside rows n good there = ⊎_elim (λ e. absurd (there (eqb-true n absent e))) (λ h. ltb-true n rows h) (or_true (eqb n absent) (ltb n rows) (not-false _ good))

module _ (s : List ℕ) (is : admission s ≡ accepts tt) where
  pub formula_named : (k : ℕ) (test : Formula → Bool) → test no_formula ≡ false → test (tree_in (formulas s) k) ≡ true → k < count s formula_part
  unfolding formulas
  formula_named k test none here = rw (rows_are s (admitted_parted s is)) at (number_inside (part s formula_part) k test none here)

  pub obligation_named : (k : ℕ) → k < count s obligation_part → obligation_action s k < count s formula_part
  unfolding is_ground_action is_action
  obligation_named k lt =
      let f = tree_in (formulas s) (obligation_action s k) in
      formula_named (obligation_action s k) is_action refl (and_true (is_action f) (is_ground f) ((good_duty s k).0 (admitted_obligation s is k lt)).action).0

  pub row_named_good : (k : ℕ) → k < count s obligation_part → bad_row_named (rows_in (log_of s)) (obligation_row s k) ≡ false
  unfolding bad_obligation
  row_named_good k lt = (or_false (not (is_duty (obligation_mark s k) && is_ground_action (tree_in (formulas s) (obligation_action s k))) || eqb (obligation_due s k) absent) _ (admitted_obligation s is k lt)).1

  pub label_named : (k : ℕ) → k < count s label_part → label_formula s k < count s formula_part
  unfolding bad_label is_policy is_action
  label_named k lt =
      let f = tree_in (formulas s) (label_formula s k) in
      let m = label_mark s k in
      let good = (and_true (closed f) ((eqb m 0 && is_policy f) || (is_duty m && is_action f)) (not-false _ (admitted_label s is k lt))).1 in
      ⊎_elim (λ h. formula_named (label_formula s k) is_policy refl (and_true (eqb m 0) (is_policy f) h).1)
      (λ h. formula_named (label_formula s k) is_action refl (and_true (is_duty m) (is_action f) h).1)
      (or_true (eqb m 0 && is_policy f) (is_duty m && is_action f) good)

  pub condition_named : (k : ℕ) → k < count s condition_part → eqb (condition_formula s k) absent ≡ false → condition_formula s k < count s formula_part
  unfolding bad_condition is_predicate
  condition_named k lt there =
      let f = tree_in (formulas s) (condition_formula s k) in
      ⊎_elim (λ e. absurd (not_both e there))
      (λ h. formula_named (condition_formula s k) is_predicate refl (and_true (is_predicate f) (is_ground f) h).0)
      (or_true (eqb (condition_formula s k) absent) (is_predicate f && is_ground f) (not-false _ (admitted_condition s is k lt)))

  pub audit_named : action_of s < count s formula_part
  unfolding is_ground_action is_action
  audit_named =
      let f = tree_in (formulas s) (action_of s) in
      formula_named (action_of s) is_action refl (and_true (is_action f) (is_ground f) ((good_audit s).0 (admitted_audit s is)).action).0

  -- The number of an action that a row shows to the agent.
  pub shown_named : (k a : ℕ) → k < rows_in (log_of s) → row_view (log_of s) (agent_of s) (formulas s) k ≡ shows (tree_in (formulas s) a) → a < count s formula_part
  unfolding bad_log_row bad_action is_ground_action is_action
  shown_named k a lt e =
      let row = row_action (log_of s) k in
      let f = tree_in (formulas s) row in
      let v = (row_shows (log_of s) (agent_of s) (formulas s) k (tree_in (formulas s) a)).0 e in
      let parts = or_false _ _ (logged_rows s (admitted_logged s is) k lt) in
      let good = not-false (eqb row absent || is_ground_action f) (or_false _ _ parts.0).0 in
      formula_named a is_action refl
      (⊎_elim (λ w. absurd (v.2 (eqb-true row absent w))) (λ w. ap is_action (sym v.3) ∙ (and_true (is_action f) (is_ground f) w).0) (or_true (eqb row absent) (is_ground_action f) good))
