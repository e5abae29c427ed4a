-- The layout as the code reads it: what check 2 asks of the observers' part, the bytes of a part that is in its place, and of its records. Assumes nothing.
use Prim.Native.Nat.{ℕ, zero, suc, ◌+◌, ◌*◌, ◌-◌, ◌/◌, ◌≤◌, ◌<◌}
use mathlib.Core.Path.{◌≡◌, refl, sym}
use mathlib.Core.Bool.{false, or-false as or_none}
use mathlib.Core.List.{List}
use native.Mathlib.Nat.{mul-le-mul_left, mul-div-le, mul-suc}
use native.Mathlib.Omega.{arith}
use lib.ListN.{length, take, drop}
use borrow.Author.Tests.{eq-eqb, ne_eqb}
use Rattle.definition.proofs.PartLaws.{part_few}
use Rattle.definition.proofs.Windows.{window_word, window_length}
use Rattle.definition.specs.11-Layout.{record_bytes, most_records, offset, size, count, part, records_in, field_in, orphans, is_misplaced, faulty_part}
use Rattle.definition.specs.18-Admission.{Parted}
use Rattle.case_parts.specs.Records.{Recorded}

-- The bytes of a record of each part that the code reads records of.
pub log_bytes : record_bytes 1 ≡ 6
unfolding record_bytes
log_bytes = refl

pub observer_bytes : record_bytes 2 ≡ 2
unfolding record_bytes
observer_bytes = refl

pub condition_bytes : record_bytes 3 ≡ 2
unfolding record_bytes
condition_bytes = refl

pub obligation_bytes : record_bytes 4 ≡ 8
unfolding record_bytes
obligation_bytes = refl

pub label_bytes : record_bytes 5 ≡ 4
unfolding record_bytes
label_bytes = refl

pub step_bytes : record_bytes 6 ≡ 10
unfolding record_bytes
step_bytes = refl

pub premise_bytes : record_bytes 7 ≡ 2
unfolding record_bytes
premise_bytes = refl

pub ruleset part_bytes = (log_bytes, observer_bytes, condition_bytes, obligation_bytes, label_bytes, step_bytes, premise_bytes)

pub some_bytes : (p : ℕ) → 0 < record_bytes p
unfolding record_bytes
some_bytes zero = omega arith
some_bytes (suc zero) = omega arith
some_bytes (suc (suc zero)) = omega arith
some_bytes (suc (suc (suc zero))) = omega arith
some_bytes (suc (suc (suc (suc zero)))) = omega arith
some_bytes (suc (suc (suc (suc (suc zero))))) = omega arith
some_bytes (suc (suc (suc (suc (suc (suc zero)))))) = omega arith
some_bytes (suc (suc (suc (suc (suc (suc (suc zero))))))) = omega arith
some_bytes (suc (suc (suc (suc (suc (suc (suc (suc p)))))))) = omega arith

-- The bytes of a part, from the numbers that were read.
pub part_is : (s : List ℕ) (p o n : ℕ) → o ≡ offset s p → n ≡ size s p → take (o + n - o) (drop o s) ≡ part s p
unfolding part
part_is s p o n e f =
    let long : o + n - o ≡ n = omega arith in
    rw (← e, ← f, long)

-- What check 2 asks of the observers' part, where it is in its place.
module _ (s : List ℕ) (p : ℕ) (e : is_misplaced s p ≡ false) where
  pub observers_faulty_lem : p ≡ 2 → orphans s 1 2 ≡ faulty_part s p
  unfolding faulty_part
  observers_faulty_lem is = rw (e, ne_eqb p 7 (λ q. omega (arith, q, is)), eq-eqb p 2 is) (sym (or_none (orphans s 1 2)))

-- A record lies in the bytes that the records have together.
pub record_inside : (b : List ℕ) (p k : ℕ) → k < records_in b p → record_bytes p * k + record_bytes p ≤ length b
unfolding records_in
record_inside b p k lt =
    let r = record_bytes p in
    let up : r * suc k ≤ r * (length b / r) = mul-le-mul_left r lt in
    omega (arith, up, mul-div-le (length b) r, mul-suc r k)

pub record_near : (b : List ℕ) (p k each : ℕ) → k < records_in b p → each ≡ record_bytes p → each * k + each ≤ length b
record_near b p k each lt e = rw e (record_inside b p k lt)

-- Its bytes, from the numbers that were read, and so its fields: the one law of all records.
pub record_is : (b : List ℕ) (p k each : ℕ) → k < records_in b p → each ≡ record_bytes p → Recorded b p k (take (each * k + each - each * k) (drop (each * k) b))
unfolding field_in
record_is b p k each lt e =
    let long : each * k + each - each * k ≡ record_bytes p = omega arith in
    let inside = record_inside b p k lt in
    rw (long, e)
    (record {
      long = window_length b (record_bytes p) (record_bytes p * k) inside;
      field = λ i h. window_word b (record_bytes p) (record_bytes p * k) i (omega arith);
    })

module _ (s : List ℕ) (g : Parted s) (p : ℕ) (known : p < 8) where
  pub counted : (n r : ℕ) → n ≡ size s p → r ≡ record_bytes p → (n / r ≡ count s p) × (n / r ≤ most_records p)
  unfolding count
  counted n r e f =
      let is : n / r ≡ size s p / record_bytes p = rw (e, f) in
      (is, omega (arith, is, part_few s g p known))
