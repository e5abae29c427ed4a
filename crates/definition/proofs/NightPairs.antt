-- Request 7: check 33 says what a pair is, and where it does not come the files are whole, in order, and at most 64. Assumes nothing.
use Prim.Native.Nat.{ℕ, zero, suc, ◌+◌, ◌*◌, ◌-◌, ◌/◌, ◌≤◌, ◌<◌}
use mathlib.Core.Path.{◌≡◌, refl, sym, ap, ◌∙◌}
use mathlib.Core.Bool.{true, false, ◌||◌, or_assoc}
use mathlib.Core.Logic.{◌↔◌, inl, inr, ⊎_elim}
use mathlib.Core.List.{List, []}
use native.Mathlib.Omega.{arith}
use lib.ListN.{length}
use lib.Dec.{eqb, leb, ltb}
use borrow.Author.Tests.{leb-true, le-leb, ltb-true, lt-ltb, ne_eqb}
use Rattle.definition.proofs.CheckLaws.{hold_all, all_hold, first_fault, fault_first, never_both, other_number}
use Rattle.definition.proofs.NightFiles.{room_long, table_long, night_is}
use Rattle.definition.proofs.Tests.{or_is, below_is, refutes, below_or_not}
use Rattle.definition.proofs.Windows.{window_at, window_length}
use Rattle.definition.specs.01-Words.{word, long}
use Rattle.definition.specs.04-Checks.{each, Fails, FirstFault, here, later, Checked, accepts, refuses, in_order}
use Rattle.definition.specs.36-Night.{most_files, pair_bytes, pair_offset, pair_length, pair_end, last_end, whole_pairs, begun_pairs, bad_pair, pair_checks, file_at, Turns, Night, told, night}
use Rattle.definition.specs.71-Nights.{SoundExactly, NightLent, night_of, PairsRead, BadPair, RefusedForPair, PairKeepsAll, Sound, files_in, FilesRead, FilesFit}

pub pairs_read : PairsRead
unfolding pair_offset pair_length long word
pairs_read list k =
    let offset : 8 * k + 2 + 1 ≡ 8 * k + 3 = omega arith in
    let second : 8 * k + 4 + 2 + 1 ≡ 8 * k + 4 + 3 = omega arith in
    (rw offset (omega arith), rw second (omega arith))

-- The test finds just what is at fault.
module _ (files list : List ℕ) where
  begins_early : (k : ℕ) → (ltb (pair_offset list k) (last_end list k) ≡ true) ↔ ((0 < k) × (pair_offset list k < pair_offset list (k - 1) + pair_length list (k - 1)))
  unfolding last_end pair_end
  begins_early zero = (λ e. absurd (omega (arith, ltb-true (pair_offset list 0) 0 e)), λ p. absurd (omega arith))
  begins_early (suc k) =
      let some : eqb (suc k) 0 ≡ false = ne_eqb (suc k) 0 (λ e. omega arith) in
      rw some (λ e. (omega arith, ltb-true _ _ e), λ p. lt-ltb _ _ p.1)

  cut_short : (k : ℕ) → (leb (whole_pairs list) k ≡ true) ↔ (length list < pair_bytes * (k + 1))
  unfolding whole_pairs
  cut_short k = (λ e. omega (arith, leb-true (length list / 8) k e), λ lt. le-leb (length list / 8) k (omega arith))

  pub bad_pair_is : (k : ℕ) → (bad_pair files list k ≡ true) ↔ BadPair files list k
  unfolding bad_pair pair_end
  bad_pair_is k =
      let early = ltb (pair_offset list k) (last_end list k) in
      let beyond = ltb (length files) (pair_end list k) in
      let short = leb (whole_pairs list) k in
      let many = leb most_files k in
      rw (or_assoc (early || beyond) short many, or_assoc early beyond (short || many))
      (or_is (begins_early k) (or_is (below_is (length files) (pair_end list k)) (or_is (cut_short k) (leb-true most_files k, le-leb most_files k))))

  begun : (k : ℕ) → (k < begun_pairs list) ↔ (pair_bytes * k < length list)
  unfolding begun_pairs
  begun k = (λ lt. omega arith, λ lt. omega arith)

  -- 33 comes with the lowest of them.
  fault_is : {n p : ℕ} → FirstFault (pair_checks files list) n p → (n ≡ 33) × (pair_bytes * p < length list) × BadPair files list p × ((q : ℕ) → q < p → BadPair files list q → ⊥)
  unfolding pair_checks
  fault_is (here f) = (sym f.0, (begun _).0 f.1.0, (bad_pair_is _).0 f.1.1, λ q lt. (refutes (bad_pair_is q)).0 (f.1.2 q lt))
  fault_is (later h f) = other_number [] refl f

  is_fault : {n p : ℕ} → (n ≡ 33) × (pair_bytes * p < length list) × BadPair files list p × ((q : ℕ) → q < p → BadPair files list q → ⊥) → FirstFault (pair_checks files list) n p
  unfolding pair_checks
  is_fault {n} {p} w =
      let f : Fails (each 33 (begun_pairs list) (bad_pair files list)) n p = (sym w.0, ((begun p).1 w.1, (bad_pair_is p).1 w.2, λ q lt. (refutes (bad_pair_is q)).1 (w.3 q lt))) in
      here f

-- What is told of a run that refuses.
told_refused : (r : Checked (Unit {0})) (t : Turns) (verdicts : List (List ℕ)) (room : List ℕ) {n p : ℕ} → (told r t verdicts room).answer ≡ refuses n p → (r ≡ refuses n p) × ((told r t verdicts room).verdicts ≡ verdicts) × ((told r t verdicts room).room ≡ room)
unfolding told
told_refused (accepts x) t verdicts room e = absurd (never_both e)
told_refused (refuses m q) t verdicts room e = (cc, refl, refl)

refused_told : {r : Checked (Unit {0})} (t : Turns) (verdicts : List (List ℕ)) (room : List ℕ) {n p : ℕ} → r ≡ refuses n p → told r t verdicts room ≡ record { answer = refuses n p; verdicts = verdicts; room = room }
unfolding told
refused_told t verdicts room e = rw e

pub refused_for_pair : RefusedForPair
unfolding night
refused_for_pair i n p = (
  λ e. fault_is i.files i.list (first_fault (pair_checks i.files i.list) n p (told_refused _ _ i.verdicts i.room e).0),
  λ w. ap (λ (x : Night). x.answer) (refused_told _ i.verdicts i.room (fault_first (is_fault i.files i.list w))),
)

pub pair_keeps_all : PairKeepsAll
unfolding night
pair_keeps_all i n p e = let t = told_refused _ _ i.verdicts i.room e in (t.1, t.2)

-- Where it does not come, no pair that the list begins is at fault.
module _ (i : NightLent) (sound : Sound i) where
  pub none_bad : (k : ℕ) → pair_bytes * k < length i.list → BadPair i.files i.list k → ⊥
  unfolding pair_checks
  none_bad k lt = (refutes (bad_pair_is i.files i.list k)).0 ((all_hold (pair_checks i.files i.list) sound).0 k ((begun i.files i.list k).1 lt))

  pub files_few : files_in i ≤ most_files
  unfolding whole_pairs
  files_few = ⊎_elim (λ many. absurd (none_bad most_files (omega arith) (inr (inr (inr (omega arith)))))) (λ few. few) (below_or_not most_files (files_in i))

  module _ (k : ℕ) (lt : k < files_in i) where
    is_begun : pair_bytes * k < length i.list
    unfolding whole_pairs
    is_begun = omega arith

    pub ends_inside : pair_end i.list k ≤ length i.files
    unfolding pair_end
    ends_inside = ⊎_elim (λ beyond. absurd (none_bad k is_begun (inr (inl beyond)))) (λ inside. inside) (below_or_not (length i.files) (pair_end i.list k))

  -- Each begins behind all that come before it.
  behind_last : (k : ℕ) → k + 1 < files_in i → pair_end i.list k ≤ pair_offset i.list (k + 1)
  unfolding pair_end
  behind_last k lt =
      let last : k + 1 - 1 ≡ k = omega arith in
      ⊎_elim (λ early. absurd (none_bad (k + 1) (is_begun (k + 1) lt) (inl (omega arith, rw last early)))) (λ behind. behind)
      (below_or_not (pair_offset i.list (k + 1)) (pair_end i.list k))

  pub in_order_lem : (j m : ℕ) → j + suc m < files_in i → pair_end i.list j ≤ pair_offset i.list (j + suc m)
  unfolding pair_end
  in_order_lem j zero lt = let one : j + 1 ≡ j + suc zero = omega arith in rw one at (behind_last j (omega arith))
  in_order_lem j (suc m) lt =
      let one : j + suc m + 1 ≡ j + suc (suc m) = omega arith in
      omega (arith, in_order_lem j m (omega arith), rw one at (behind_last (j + suc m) (omega arith)))

pub sound_exactly : SoundExactly
unfolding pair_checks
sound_exactly i = (none_bad i, λ none. hold_all (pair_checks i.files i.list) (λ q lt. (refutes (bad_pair_is i.files i.list q)).1 (none q ((begun i.files i.list q).0 lt)), tt))

pub files_read : FilesRead
unfolding file_at pair_end
files_read i k h = (
  window_length i.files (pair_length i.list k) (pair_offset i.list k) (ends_inside i h.0 k h.1),
  λ j lt. window_at i.files (pair_length i.list k) (pair_offset i.list k) j lt,
)

-- No entry is added or lost, whatever the answer.
same_entries : (i : NightLent) (r : Checked (Unit {0})) → in_order (pair_checks i.files i.list) ≡ r → (length i.verdicts ≡ most_files → length (night_of i).verdicts ≡ most_files) × (length (night_of i).room ≡ length i.room)
unfolding night
same_entries i (accepts x) sound =
    let n = files_in i in
    rw (night_is i sound) (
      λ long. table_long i n (omega (arith, files_few i sound)) ∙ long,
      room_long i n,
    )
same_entries i (refuses n p) e = rw (refused_told _ i.verdicts i.room e) (λ long. long, refl)

files_all : (i : NightLent) → Sound i → 8 * files_in i ≡ length i.list
unfolding whole_pairs
files_all i sound = ⊎_elim (λ cut. absurd (none_bad i sound (files_in i) cut (inr (inr (inl (omega arith)))))) (λ all. omega arith) (below_or_not (8 * files_in i) (length i.list))

pub files_fit : FilesFit
files_fit i = let same = same_entries i (in_order (pair_checks i.files i.list)) refl in (λ sound. (files_few i sound, files_all i sound), same.0, same.1)
