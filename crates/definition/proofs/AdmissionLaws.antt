-- The admission by its groups of checks, and what an admitted file has passed. Assumes nothing.
use Prim.Native.Nat.{ℕ, ◌<◌}
use mathlib.Core.Path.{◌≡◌, ◌∙◌}
use mathlib.Core.Bool.{false}
use mathlib.Core.List.{List, ◌++◌}
use Rattle.definition.specs.04-Checks.{AllHold, accepts, ◌>>◌, in_order}
use Rattle.definition.specs.11-Layout.{formula_part, condition_part, obligation_part, label_part, part, count, layout_checks}
use Rattle.definition.specs.14-Book.{book_checks}
use Rattle.definition.specs.15-Records.{log_of, rows_in, formulas, bad_log_row, bad_condition, bad_obligation, bad_label, bad_audit, log_checks, record_checks}
use Rattle.definition.specs.18-Admission.{Parted, checks_to_log, admission_checks, admission}
use Rattle.definition.proofs.CheckLaws.{all_hold, hold_all, both_hold, in_order_append, then_assoc, by_number}

-- One group after the other: checks 1 to 5, and all of the admission.
pub to_log_groups :
    (s : List ℕ) → in_order (checks_to_log s) ≡ ◌>>◌ (in_order (layout_checks s)) (◌>>◌ (in_order (book_checks (part s formula_part))) (in_order (log_checks (log_of s) (formulas s))))
unfolding checks_to_log
to_log_groups s = simp (in_order_append, then_assoc)

pub records_last : (s : List ℕ) → admission s ≡ ◌>>◌ (in_order (checks_to_log s)) (in_order (record_checks s))
unfolding admission admission_checks
records_last s = in_order_append (checks_to_log s) (record_checks s)

pub in_groups :
    (s : List ℕ) → admission s ≡ ◌>>◌ (in_order (layout_checks s)) (◌>>◌ (in_order (book_checks (part s formula_part))) (◌>>◌ (in_order (log_checks (log_of s) (formulas s))) (in_order (record_checks s))))
in_groups s = records_last s ∙ rw (to_log_groups s) (simp then_assoc)

-- Checks 1 and 2 hold just in a file whose parts are in order.
pub layout_parted : {s : List ℕ} → AllHold (layout_checks s) → Parted s
unfolding layout_checks
layout_parted {s} h = record { long = (by_number 1 (layout_checks s) h).0; sound = (by_number 2 (layout_checks s) h).0 }

pub parted_layout : {s : List ℕ} → Parted s → AllHold (layout_checks s)
unfolding layout_checks
parted_layout h = (h.long, (h.sound, tt))

-- What a file has passed that checks 1 to 5 let pass.
module _ (s : List ℕ) (is : in_order (checks_to_log s) ≡ accepts tt) where
  groups : AllHold (layout_checks s) × (AllHold (book_checks (part s formula_part)) × AllHold (log_checks (log_of s) (formulas s)))
  unfolding checks_to_log
  groups =
      let l = layout_checks s in
      let b = book_checks (part s formula_part) in
      let second = both_hold (l ++ b) (log_checks (log_of s) (formulas s)) (all_hold (checks_to_log s) is) in
      let third = both_hold l b second.0 in
      (third.0, (third.1, second.1))

  pub logged_parted : Parted s
  logged_parted = layout_parted groups.0

  pub logged_layout : in_order (layout_checks s) ≡ accepts tt
  logged_layout = hold_all (layout_checks s) groups.0

  pub logged_book : in_order (book_checks (part s formula_part)) ≡ accepts tt
  logged_book = hold_all (book_checks (part s formula_part)) groups.1.0

  pub logged_rows : (k : ℕ) → k < rows_in (log_of s) → bad_log_row (log_of s) (formulas s) k ≡ false
  unfolding log_checks
  logged_rows = (by_number 5 (log_checks (log_of s) (formulas s)) groups.1.1).0

-- And one that is admitted.
module _ (s : List ℕ) (is : admission s ≡ accepts tt) where
  both : AllHold (checks_to_log s) × AllHold (record_checks s)
  unfolding admission admission_checks
  both = both_hold (checks_to_log s) (record_checks s) (all_hold (admission_checks s) is)

  pub admitted_logged : in_order (checks_to_log s) ≡ accepts tt
  admitted_logged = hold_all (checks_to_log s) both.0

  pub admitted_parted : Parted s
  admitted_parted = logged_parted s admitted_logged

  pub admitted_condition : (k : ℕ) → k < count s condition_part → bad_condition s (formulas s) k ≡ false
  unfolding record_checks
  admitted_condition = (by_number 6 (record_checks s) both.1).0

  pub admitted_obligation : (k : ℕ) → k < count s obligation_part → bad_obligation s (formulas s) (rows_in (log_of s)) k ≡ false
  unfolding record_checks
  admitted_obligation = (by_number 7 (record_checks s) both.1).0

  pub admitted_label : (k : ℕ) → k < count s label_part → bad_label s (formulas s) k ≡ false
  unfolding record_checks
  admitted_label = (by_number 8 (record_checks s) both.1).0

  pub admitted_audit : bad_audit s (formulas s) ≡ false
  unfolding record_checks
  admitted_audit = (by_number 9 (record_checks s) both.1).0
