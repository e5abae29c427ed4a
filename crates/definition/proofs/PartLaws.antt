-- A file that checks 1 and 2 let pass has its parts where the header says, whole. Assumes nothing.
use Prim.Native.Nat.{ℕ, ◌+◌, ◌/◌, ◌%◌, ◌≤◌, ◌<◌}
use mathlib.Core.Path.{◌≡◌, sym, ap, ◌∙◌}
use mathlib.Core.Bool.{false, not, ◌&&◌}
use mathlib.Core.List.{List}
use native.Mathlib.Omega.{arith}
use lib.ListN.{length}
use lib.Dec.{eqb, ltb}
use borrow.Author.Tests.{not-false, eqb-true, ltb-false}
use Rattle.definition.proofs.Tests.{or_false}
use Rattle.definition.proofs.Windows.{window_length}
use Rattle.definition.specs.11-Layout.{header_bytes, most_bytes, record_bytes, most_records, formula_part, premise_part, observer_part, log_part, step_part, offset, size, end, count, part, records_in, due_offset, bad_length, orphans, is_misplaced, faulty_part}
use Rattle.definition.specs.14-Book.{book_rows}
use Rattle.definition.specs.15-Records.{log_of, rows_in}
use Rattle.definition.specs.18-Admission.{Parted}

-- A file that check 1 lets pass has a header, and not too many bytes.
pub long_header : (s : List ℕ) → bad_length s ≡ false → (header_bytes ≤ length s) × (length s ≤ most_bytes)
unfolding bad_length
long_header s e =
    let h = or_false (ltb (length s) header_bytes) (ltb most_bytes (length s)) e in
    (ltb-false (length s) header_bytes h.0, ltb-false most_bytes (length s) h.1)

module _ (s : List ℕ) (g : Parted s) where
  pub header_inside : header_bytes ≤ length s
  header_inside = (long_header s g.long).0

  module _ (p : ℕ) (known : p < 8) where
    -- The tests of `faulty_part`, passed, and then the four of `is_misplaced`.
    tested : (is_misplaced s p ≡ false) × (eqb p premise_part && ltb (end s p) (length s) ≡ false) × (eqb p observer_part && orphans s log_part observer_part ≡ false) × (eqb p premise_part && orphans s step_part premise_part ≡ false)
    unfolding faulty_part
    tested =
        let steps = or_false _ (eqb p premise_part && orphans s step_part premise_part) (g.sound p known) in
        let rows = or_false _ (eqb p observer_part && orphans s log_part observer_part) steps.0 in
        let ends = or_false (is_misplaced s p) (eqb p premise_part && ltb (end s p) (length s)) rows.0 in
        (ends.0, ends.1, rows.1, steps.1)

    placed : (offset s p ≡ due_offset s p) × (size s p % record_bytes p ≡ 0) × (count s p ≤ most_records p) × (end s p ≤ length s)
    unfolding is_misplaced
    placed =
        let inside = or_false _ (ltb (length s) (end s p)) tested.0 in
        let few = or_false _ (ltb (most_records p) (count s p)) inside.0 in
        let due = or_false (not (eqb (offset s p) (due_offset s p))) (not (eqb (size s p % record_bytes p) 0)) few.0 in (
          eqb-true _ _ (not-false _ due.0),
          eqb-true _ _ (not-false _ due.1),
          ltb-false _ _ few.1,
          ltb-false _ _ inside.1,
        )

    pub part_due : offset s p ≡ due_offset s p
    part_due = placed.0

    pub part_whole : size s p % record_bytes p ≡ 0
    part_whole = placed.1

    pub part_few : count s p ≤ most_records p
    part_few = placed.2

    pub part_inside : offset s p + size s p ≤ length s
    unfolding end
    part_inside = placed.3

    pub part_length : length (part s p) ≡ size s p
    unfolding part
    part_length = window_length s (size s p) (offset s p) part_inside

    -- The part has as many records as the header says.
    pub held_count : records_in (part s p) p ≡ count s p
    unfolding records_in count
    held_count = ap (λ (n : ℕ). n / record_bytes p) part_length

  -- The last part ends the file, and there are no observers without log rows and no premises without steps.
  pub all_covered : end s premise_part ≡ length s
  unfolding end
  all_covered = omega (arith, part_inside premise_part (omega arith), ltb-false (end s premise_part) (length s) (tested premise_part (omega arith)).1)

  pub rows_observed : orphans s log_part observer_part ≡ false
  rows_observed = (tested observer_part (omega arith)).2

  pub steps_premised : orphans s step_part premise_part ≡ false
  steps_premised = (tested premise_part (omega arith)).3

  -- The log has as many rows as the header says.
  pub log_rows : rows_in (log_of s) ≡ count s log_part
  unfolding rows_in log_of
  log_rows = held_count log_part (omega arith)

  -- The book has no more rows than it may.
  pub book_few : book_rows (part s formula_part) ≤ 1024
  unfolding book_rows records_in most_records record_bytes
  book_few = omega (arith, held_count formula_part (omega arith), part_few formula_part (omega arith))

-- Equal parts hold equally many records.
pub same_count : (s t : List ℕ) → Parted s → Parted t → (p : ℕ) → p < 8 → part s p ≡ part t p → count s p ≡ count t p
same_count s t f g p h e = sym (held_count s f p h) ∙ ap (λ (b : List ℕ). records_in b p) e ∙ held_count t g p h
