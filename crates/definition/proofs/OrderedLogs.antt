-- The log of a file that checks 1 to 5 let pass has its observers in order, so its index has as many entries as the agents and observers make. And a table begins with another just if it is at least as long and has its entries. Assumes nothing.
use Prim.Native.Nat.{ℕ, zero, suc, ◌+◌, ◌*◌, ◌≤◌, ◌<◌}
use mathlib.Core.Path.{◌≡◌, refl, sym, ◌∙◌}
use mathlib.Core.Bool.{true, false, ◌&&◌}
use mathlib.Core.Logic.{◌↔◌, ◌⊎◌, inl, inr, ⊎_elim}
use mathlib.Core.List.{List, [], ◌∷◌, map}
use native.Mathlib.Omega.{arith}
use lib.ListN.{length, get_or, length-append}
use lib.Dec.{eqb, ltb}
use borrow.Author.Tests.{ltb-false, eqb-true, eq-eqb}
use Rattle.definition.proofs.AdmissionLaws.{logged_parted, logged_rows}
use Rattle.definition.proofs.IndexHolds.{list_sees, heads_length}
use Rattle.definition.proofs.ListLaws.{append_among, joined_among}
use Rattle.definition.proofs.OrderedIndex.{observing_is, agents_counted, index_length, index_count, agents_few}
use Rattle.definition.proofs.PartLaws.{part_whole, part_few, held_count, log_rows, rows_observed}
use Rattle.definition.proofs.RangeLaws.{members_among}
use Rattle.definition.proofs.Tests.{and_true, and_intro, or_false, not_both}
use Rattle.definition.specs.02-Ranges.{any}
use Rattle.definition.specs.03-Lists.{Among, join_all, begins}
use Rattle.definition.specs.04-Checks.{accepts, in_order}
use Rattle.definition.specs.11-Layout.{log_part, observer_part, record_bytes, most_records, size, count, orphans}
use Rattle.definition.specs.12-Terms.{agents_end}
use Rattle.definition.specs.15-Records.{Log, log_of, rows_in, observers_in, row_action, row_from, row_count, formulas, bad_action, bad_span, bad_observer, bad_log_row}
use Rattle.definition.specs.18-Admission.{Parted, checks_to_log}
use Rattle.definition.specs.35-Index.{observing, rows_seen, heads, index_of}
use Rattle.definition.specs.47-Indexed.{IndexLength, EntriesFit}
use Rattle.definition.specs.48-Places.{OrderedLog, observes}

module _ (s : List ℕ) (is : in_order (checks_to_log s) ≡ accepts tt) where
  parted : Parted s
  parted = logged_parted s is

  row_passed :
      (k : ℕ) → k < rows_in (log_of s) →
      (bad_span (row_from (log_of s)) (row_count (log_of s)) (rows_in (log_of s)) (observers_in (log_of s)) k ≡ false)
      × (any (bad_observer (log_of s).observers (row_from (log_of s) k)) (row_count (log_of s) k) (row_from (log_of s) k) ≡ false)
  unfolding bad_log_row
  row_passed k lt =
      let g = log_of s in
      let list = or_false _ (any (bad_observer g.observers (row_from g k)) (row_count g k) (row_from g k)) (logged_rows s is k lt) in
      let span = or_false (bad_action (formulas s) (row_action g k)) (bad_span (row_from g) (row_count g) (rows_in g) (observers_in g) k) list.0 in
      (span.1, list.1)

  observers_held : observers_in (log_of s) ≡ count s observer_part
  unfolding observers_in log_of
  observers_held = held_count s parted observer_part (omega arith)

  no_orphans : rows_in (log_of s) ≡ 0 → observers_in (log_of s) ≡ 0
  unfolding orphans count record_bytes
  no_orphans none =
      let empty : size s log_part ≡ 0 = omega (arith, none, log_rows s parted, part_whole s parted log_part (omega arith)) in
      let o : eqb (size s log_part) 0 && ltb 0 (size s observer_part) ≡ false = rows_observed s parted in
      let few = ltb-false 0 (size s observer_part) (rw (eq-eqb (size s log_part) 0 empty) at o) in
      omega (arith, observers_held, few)

  pub logged_ordered : OrderedLog (log_of s)
  unfolding most_records
  logged_ordered =
      record {
        spans = λ k lt. (row_passed k lt).0;
        lists = λ k lt. (row_passed k lt).1;
        observed = no_orphans;
        rows_few = rw (log_rows s parted) (part_few s parted log_part (omega arith));
        observers_few = rw observers_held (part_few s parted observer_part (omega arith));
      }

pub index_entries : IndexLength
index_entries s is =
    let o = logged_ordered s is in
    let long = index_length (log_of s) o in
    (long ∙ omega (arith, index_count (log_of s) o), omega (arith, long, agents_few (log_of s) o, o.observers_few))

-- Its entries have 16 bits: agents, offsets and lengths within it, and rows.
module _ (g : Log) where
  abbrev joined : List ℕ → List ℕ
  joined xs = join_all (map (rows_seen g) xs)

  in_heads : (xs : List ℕ) (at x : ℕ) → Among x (heads g at xs) → Among x xs ⊎ (x ≤ at + length (joined xs))
  unfolding heads join_all
  in_heads [] at x m = absurd m
  in_heads (a ∷ xs) at x (inl e) = inl (inl e)
  in_heads (a ∷ xs) at x (inr (inl e)) = inr (omega arith)
  in_heads (a ∷ xs) at x (inr (inr (inl e))) = inr (omega (arith, length-append (rows_seen g a) (joined xs)))
  in_heads (a ∷ xs) at x (inr (inr (inr m))) =
      ⊎_elim (λ h. inl (inr h)) (λ le. inr (omega (arith, le, length-append (rows_seen g a) (joined xs)))) (in_heads xs (at + length (rows_seen g a)) x m)

  module _ (o : OrderedLog g) where
    in_joined : (xs : List ℕ) (x : ℕ) → Among x (joined xs) → x < 65536
    in_joined xs x m = let w = joined_among (rows_seen g) x xs m in omega (arith, ((list_sees g w.0 x).0 w.2).0, o.rows_few)

    agent_small : (a : ℕ) → Among a (observing g) → a < 65536
    agent_small a m = omega (arith, ((members_among (observes g) agents_end 0 a).0 (rw (observing_is g o) at m)).1)

    offset_small : (x : ℕ) → x ≤ 1 + 3 * length (observing g) + length (joined (observing g)) → x < 65536
    unfolding index_of
    offset_small x le =
        let long = length-append (heads g (1 + 3 * length (observing g)) (observing g)) (joined (observing g)) in
        omega (arith, le, long, heads_length g (observing g) (1 + 3 * length (observing g)), index_length g o, agents_few g o, o.observers_few)

    entry_small : (x : ℕ) → Among x (index_of g) → x < 65536
    unfolding index_of
    entry_small x (inl e) = omega (arith, e, agents_counted g o, agents_few g o, o.observers_few)
    entry_small x (inr m) =
        let n = length (observing g) in
        ⊎_elim (λ h. ⊎_elim (λ a. agent_small x a) (λ le. offset_small x le) (in_heads (observing g) (1 + 3 * n) x h)) (λ h. in_joined (observing g) x h)
        (append_among (heads g (1 + 3 * n) (observing g)) (joined (observing g)) x m)

pub entries_fit : EntriesFit
entries_fit s is = entry_small (log_of s) (logged_ordered s is)

-- Beginning with a list, by places.
pub begins_places : (d l : List ℕ) → (begins d l ≡ true) ↔ ((length d ≤ length l) × ((p : ℕ) → p < length d → get_or l p 0 ≡ get_or d p 0))
unfolding begins
begins_places [] l = (λ e. (omega arith, λ p lt. absurd (omega arith)), λ h. refl)
begins_places (x ∷ xs) [] = (λ e. absurd (not_both e refl), λ h. absurd (omega (arith, h.0)))
begins_places (x ∷ xs) (y ∷ ys) = go (begins_places xs ys)
  where
    there :
        (length xs ≤ length ys) × ((p : ℕ) → p < length xs → get_or ys p 0 ≡ get_or xs p 0) → x ≡ y →
        (p : ℕ) → p < suc (length xs) → get_or (y ∷ ys) p 0 ≡ get_or (x ∷ xs) p 0
    there h e zero lt = sym e
    there h e (suc p) lt = h.1 p (omega arith)

    go :
        (begins xs ys ≡ true) ↔ ((length xs ≤ length ys) × ((p : ℕ) → p < length xs → get_or ys p 0 ≡ get_or xs p 0)) →
        (eqb x y && begins xs ys ≡ true) ↔ ((suc (length xs) ≤ suc (length ys)) × ((p : ℕ) → p < suc (length xs) → get_or (y ∷ ys) p 0 ≡ get_or (x ∷ xs) p 0))
    go rest = (
      λ e. let b = and_true (eqb x y) (begins xs ys) e in let h = rest.0 b.1 in (omega (arith, h.0), there h (eqb-true x y b.0)),
      λ h. and_intro (eq-eqb x y (sym (h.1 0 (omega arith)))) (rest.1 (omega (arith, h.0), λ p lt. h.1 (suc p) (omega arith))),
    )
