-- The admission as the code goes through it: the formulas of a file whose layout is in order, and the rows that the table has got. Assumes nothing.
use Prim.Native.Nat.{ℕ, ◌%◌}
use mathlib.Core.Path.{◌≡◌, refl, sym, ap, ◌∙◌}
use mathlib.Core.Bool.{false}
use mathlib.Core.List.{List}
use native.Mathlib.Omega.{arith}
use lib.ListN.{length}
use borrow.Author.Tests.{le-ltb, eq-eqb}
use Rattle.definition.proofs.CheckLaws.{goes_on}
use Rattle.definition.proofs.PartLaws.{part_length, part_whole, part_few, held_count}
use Rattle.definition.specs.04-Checks.{Checked, accepts, refuses, in_order}
use Rattle.definition.specs.11-Layout.{formula_part, row_bytes, record_bytes, most_records, part, count, records_in, agent_of}
use Rattle.definition.specs.14-Book.{book_rows, is_misshapen, book_checks, book_admission}
use Rattle.definition.specs.15-Records.{log_of, formulas}
use Rattle.definition.specs.18-Admission.{Parted}
use Rattle.case_file.specs.Booked.{Booked}
use Rattle.case_file.specs.Seen.{SeenUpTo, SeenAfter, first_bad_row, rows_after}

module _ (s : List ℕ) (g : Parted s) where
  pub rows_are : book_rows (part s formula_part) ≡ count s formula_part
  unfolding book_rows records_in record_bytes
  rows_are = held_count s g formula_part (omega arith)

  shapely : is_misshapen (part s formula_part) ≡ false
  unfolding is_misshapen record_bytes most_records
  shapely =
      let long = part_length s g formula_part (omega arith) in
      let whole : length (part s formula_part) % row_bytes ≡ 0 = rw long (part_whole s g formula_part (omega arith)) in
      rw (eq-eqb (length (part s formula_part) % row_bytes) 0 whole, le-ltb 1024 (book_rows (part s formula_part)) (omega (arith, rows_are, part_few s g formula_part (omega arith))))

  -- The formula part is no misshapen book, so checks 3 and 4 decide.
  book_checked : book_admission (part s formula_part) ≡ in_order (book_checks (part s formula_part))
  unfolding book_admission
  book_checked = goes_on _ _ shapely

  -- An answer about the book, which is this part, is the answer of those checks.
  pub book_answer : {b : List ℕ} {r : Checked (Unit {0})} → b ≡ part s formula_part → r ≡ book_admission b → r ≡ in_order (book_checks (part s formula_part))
  book_answer e answer = answer ∙ ap book_admission e ∙ book_checked

  pub booked : {b : List ℕ} → b ≡ part s formula_part → accepts tt ≡ in_order (book_checks (part s formula_part)) → Booked s b
  booked e passed = record { parted = g; is = e; book = record { passes = rw e (book_checked ∙ sym passed) } }

-- The table after a run that refuses before check 5, and after one that does not.
pub none_entered : (s table : List ℕ) {run : Checked (Unit {0})} {n p : ℕ} → refuses n p ≡ run → SeenAfter run s table table
unfolding rows_after
none_entered s table e = rw (← e) (record { long = refl; low = λ k below. absurd (omega arith); rest = λ k from. refl })

pub rows_entered : (s : List ℕ) {old new : List ℕ} {run : Checked (Unit {0})} {x : Unit {0}} → accepts x ≡ run → SeenUpTo (log_of s) (agent_of s) (first_bad_row (log_of s) (formulas s)) old new → SeenAfter run s old new
unfolding rows_after
rows_entered s e h = rw (← e) h

pub as_entered : (s : List ℕ) {old new : List ℕ} {run before : Checked (Unit {0})} → run ≡ before → SeenAfter run s old new → SeenAfter before s old new
as_entered s e h = rw (← e) h
