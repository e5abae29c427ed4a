-- What callers of this library may cite, beside LentCaseLaws: what a file has that checks 1 to 5 let pass, and that the table says what the agent sees of each row. Assumes nothing.
use Prim.Native.Nat.{ℕ, ◌<◌}
use mathlib.Core.Path.{◌≡◌, refl, sym, ap, ◌∙◌}
use mathlib.Core.List.{List}
use native.Mathlib.Omega.{arith}
use lib.ListN.{get_or}
use Rattle.definition.proofs.AdmissionLaws.{logged_parted, logged_layout, logged_book, logged_rows}
use Rattle.definition.proofs.CheckLaws.{then_goes_on}
use Rattle.definition.proofs.RangeLaws.{lowest_none}
use Rattle.definition.specs.04-Checks.{accepts, in_order}
use Rattle.definition.specs.11-Layout.{formula_part, part, agent_of}
use Rattle.definition.specs.15-Records.{log_of, rows_in, formulas, bad_log_row}
use Rattle.definition.specs.16-Views.{row_view}
use Rattle.definition.specs.18-Admission.{checks_to_log}
use Rattle.case_file.specs.AdmissionRuns.{before_log}
use Rattle.case_file.specs.Booked.{Booked}
use Rattle.case_file.specs.Seen.{SeenUpTo, SeenAfter, code_view, first_bad_row, rows_after}
use Rattle.case_file.proofs.AdmissionBranches.{booked}
use Rattle.case_file.proofs.SeenTable.{code_view_lem}
pub use Rattle.case_file.proofs.NamedFormulas.{named_inside, formula_named, obligation_named, row_named_good, label_named, condition_named, audit_named, shown_named}

-- A file that checks 1 to 5 let pass.
module _ (s : List ℕ) (is : in_order (checks_to_log s) ≡ accepts tt) where
  pub logged_booked : {b : List ℕ} → b ≡ part s formula_part → Booked s b
  logged_booked e = booked s (logged_parted s is) e (sym (logged_book s is))

  -- Every row has its entry in the table, and one look at it tells what the agent sees of the row.
  all_rows_entered : rows_after (before_log s) s ≡ rows_in (log_of s)
  unfolding rows_after before_log first_bad_row
  all_rows_entered =
      rw (← then_goes_on (sym (logged_layout s is)), logged_book s is)
      (omega (arith, lowest_none (bad_log_row (log_of s) (formulas s)) (rows_in (log_of s)) 0 (λ j from below. logged_rows s is j (omega arith))))

  pub full_table_view :
      (old new : List ℕ) → SeenUpTo (log_of s) (agent_of s) (rows_in (log_of s)) old new → (k : ℕ) → k < rows_in (log_of s) →
      code_view (formulas s) (get_or new k 0) ≡ row_view (log_of s) (agent_of s) (formulas s) k
  unfolding formulas
  full_table_view old new h k below =
      ap (code_view (formulas s)) (h.low k below)
      ∙ code_view_lem (log_of s) (agent_of s) (part s formula_part) k (logged_booked refl).book below (logged_rows s is k below)

  pub table_view : (old new : List ℕ) → SeenAfter (before_log s) s old new → (k : ℕ) → k < rows_in (log_of s) → code_view (formulas s) (get_or new k 0) ≡ row_view (log_of s) (agent_of s) (formulas s) k
  table_view old new h = full_table_view old new (rw all_rows_entered at h)
