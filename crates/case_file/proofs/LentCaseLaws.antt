-- What an admitted file that is lent to the code has: parts, a book of formulas, and what the table says of its rows. Assumes nothing.
use Prim.Native.Nat.{ℕ, ◌≤◌, ◌<◌}
use mathlib.Core.Path.{◌≡◌, sym, ◌∙◌}
use mathlib.Core.List.{List}
use native.Mathlib.Omega.{arith}
use lib.ListN.{get_or}
use Rattle.definition.specs.14-Book.{book, book_rows}
use Rattle.definition.specs.11-Layout.{formula_part, log_part, obligation_part, label_part, step_part, premise_part, count, most_records}
use Rattle.definition.specs.15-Records.{log_of, rows_in, formulas}
use Rattle.definition.specs.16-Views.{RowView}
use Rattle.definition.specs.17-Case.{case_of}
use Rattle.definition.specs.18-Admission.{Parted}
use Rattle.definition.proofs.PartLaws.{part_few, log_rows}
use Rattle.case_file.specs.LentCase.{Lent, CaseLent, Numbered}
use Rattle.case_file.specs.Seen.{code_view}
use Rattle.case_file.proofs.AdmissionBranches.{rows_are}

module _ {s b : List ℕ} (lent : Lent s b) where
  pub parted : Parted s
  parted = lent.booked.parted

  pub lent_trees : book b ≡ formulas s
  unfolding formulas
  lent_trees = rw lent.booked.is

  -- the formulas of the file are those of the book
  pub lent_rows : book_rows b ≡ count s formula_part
  lent_rows = rw lent.booked.is (rows_are s parted)

  pub numbered : {k : ℕ} → k < count s formula_part → Numbered b k
  numbered lt = record { book = lent.booked.book; below = rw lent_rows lt }

-- One look at the table tells what the agent sees of a row.
pub row_looked : (s b v : List ℕ) (k : ℕ) → CaseLent s b v → k < rows_in (log_of s) → (r : RowView) → r ≡ code_view (formulas s) (get_or v k 0) → (case_of s).row k ≡ r
unfolding case_of
row_looked s b v k h lt r e = sym (e ∙ h.views k lt)

-- The limits of the parts.
module _ (s : List ℕ) (h : Parted s) where
  pub rows_few : rows_in (log_of s) ≤ 1024
  unfolding most_records
  rows_few = rw (log_rows s h) (part_few s h log_part (omega arith))

  pub obligations_few : count s obligation_part ≤ 64
  unfolding most_records
  obligations_few = part_few s h obligation_part (omega arith)

  pub labels_few : count s label_part ≤ 32
  unfolding most_records
  labels_few = part_few s h label_part (omega arith)

  pub steps_few : count s step_part ≤ 2048
  unfolding most_records
  steps_few = part_few s h step_part (omega arith)

  pub premises_few : count s premise_part ≤ 2048
  unfolding most_records
  premises_few = part_few s h premise_part (omega arith)
