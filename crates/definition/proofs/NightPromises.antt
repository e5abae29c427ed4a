-- Request 7: demand 3 file by file, by that of one check; a room that is never too short; and the promise of a night's call. Assumes nothing.
use Prim.Native.Nat.{ℕ, zero, suc, ◌+◌, ◌*◌, ◌-◌, ◌≤◌, ◌<◌}
use mathlib.Core.Path.{◌≡◌, refl, sym, ap, ap₂, ◌∙◌}
use mathlib.Core.Bool.{Bool, true, false, ◌||◌}
use mathlib.Core.Logic.{◌⊎◌, inl, inr, ⊎_elim}
use mathlib.Core.List.{List, ◌++◌, append_assoc}
use native.Mathlib.Omega.{arith}
use lib.ListN.{length, take, drop, length-append, length-drop, take-append-drop}
use lib.Seq.{length-take-le, take-append-le, drop-append-le, take_at, drop_at}
use lib.Dec.{leb}
use borrow.Author.Tests.{leb-false, lt-leb}
use Rattle.definition.proofs.CheckLaws.{hold_all, all_hold}
use Rattle.definition.proofs.NightFiles.{began_few, told_in_turn}
use Rattle.definition.proofs.NightPairs.{files_few, ends_inside, in_order_lem, files_read}
use Rattle.definition.proofs.PromiseLaws.{promised}
use Rattle.definition.proofs.RangeLaws.{any_false, any_none}
use Rattle.definition.proofs.RoomLaws.{long_room_suffices, lent_room_long, long_rooms_alike}
use Rattle.definition.proofs.StruckFile.{struck_or_parted, strikes_unseen}
use Rattle.definition.proofs.Tests.{or_false}
use Rattle.definition.proofs.UnseenRows.{unseen_rows_are_unseen, as_if_struck}
use Rattle.definition.specs.02-Ranges.{any}
use Rattle.definition.specs.04-Checks.{AllHold, Checked, accepts, refuses}
use Rattle.definition.specs.19-Rewriting.{strike}
use Rattle.definition.specs.31-Outcome.{passed, Finding, justified, nothing_owed, finding, report, outcome}
use Rattle.definition.specs.32-Numbers.{verdict_numbers, verdict_entry, count_numbers}
use Rattle.definition.specs.33-Text.{lent_room}
use Rattle.definition.specs.36-Night.{most_files, pair_offset, pair_length, pair_end, whole_pairs, begun_pairs, bad_pair, pair_checks, file_at, entries_of}
use Rattle.definition.specs.71-Nights.{NightLent, lent_for, night_of, NumbersTold, HasFile, file, began, alone, shown_of, LongRoomSuffices, LongRoomAlone, strike_file, StrikesFile, checking_at, NightShowsNoRow, NightAnswered}

-- In a room of 64 times 1,088 entries each file has 1,088 left.
part_long : (i : NightLent) → most_files * 1088 ≤ length i.room → (k : ℕ) → HasFile i k → 1088 ≤ length (drop (began i k) i.room)
part_long i long k h = omega (arith, length-drop (began i k) i.room, began_few i k, files_few i h.0, h.1)

pub numbers_told : NumbersTold
unfolding verdict_numbers verdict_entry count_numbers
numbers_told = (λ d r. refl, refl, λ n p. refl, λ n. refl, λ n p. refl)

pub night_room_suffices : LongRoomSuffices
night_room_suffices i long k h n e = long_room_suffices (file i k) (drop (began i k) i.room) (part_long i long k h) n e

-- What is shown of a report does not depend on the room.
shown_same : (x : Checked Finding) (room other : List ℕ) → shown_of (report x room) ≡ shown_of (report x other)
unfolding report entries_of
shown_same (accepts (justified ds rs)) room other =
    let both = length-append ds rs in
    let n = length ds + length rs in
    ap (λ (l : List ℕ). record { verdict = passed (length ds) (length rs); entries = l })
    (take_at (ds ++ rs) (drop n room) n both ∙ sym (take_at (ds ++ rs) (drop n other) n both))
shown_same (accepts nothing_owed) room other = refl
shown_same (refuses n p) room other = refl

pub long_room_alone : LongRoomAlone
unfolding outcome
long_room_alone i long k h =
    let room = drop (began i k) i.room in
    let found = long_rooms_alike (file i k) room lent_room (part_long i long k h) (omega (arith, lent_room_long)) in
    ap (λ (x : Checked Finding). shown_of (report x room)) found ∙ shown_same (finding (file i k) (length lent_room)) room lent_room

-- Two nights with the same verdicts before file k have written as many entries.
module _ (i j : NightLent) where
  same_began : (k : ℕ) → ((m : ℕ) → m < k → (alone i m).verdict ≡ (alone j m).verdict) → began i k ≡ began j k
  unfolding began
  same_began zero same = refl
  same_began (suc k) same = ap₂ (λ (x y : ℕ). x + y) (same_began k (λ m lt. same m (omega arith))) (ap entries_of (same k (omega arith)))

  -- So have nights whose files before it are the same, in the same room.
  same_files : i.room ≡ j.room → (k : ℕ) → ((m : ℕ) → m < k → file i m ≡ file j m) → began i k ≡ began j k
  unfolding began
  same_files room zero same = refl
  same_files room (suc k) same =
      let before = same_files room k (λ m lt. same m (omega arith)) in
      rw (before, same k (omega arith), room)

hides : (k : ℕ) (i j : NightLent) → (checking_at k).is_alike i j → ((checking_at k).is_aside i → ⊥) → ((checking_at k).is_aside j → ⊥) → (checking_at k).answer i ≡ (checking_at k).answer j
hides k i j a wi wj =
    let part : drop (began i k) i.room ≡ drop (began j k) j.room = rw (same_began i j k a.3, a.4) in
    ap shown_of
    (unseen_rows_are_unseen.0 (record { file = file i k; room = drop (began i k) i.room }) (record { file = file j k; room = drop (began j k) j.room }) (a.2, part) wi wj)

-- Striking out keeps a file's length.
struck_length : (s : List ℕ) → length (strike s) ≡ length s
struck_length s = ⊎_elim (λ e. ap length e) (λ f. (strikes_unseen s f).0) (struck_or_parted s)

-- A window that ends before other bytes does not have them.
window_before : (a x y : List ℕ) (o n : ℕ) → o + n ≤ length a → take n (drop o (a ++ x)) ≡ take n (drop o (a ++ y))
window_before a x y o n fits =
    let begins : o ≤ length a = omega arith in
    let inside : n ≤ length (drop o a) = omega (arith, length-drop o a) in
    rw (drop-append-le o a x, drop-append-le o a y, take-append-le n (drop o a) x, take-append-le n (drop o a) y)

module _ (i : NightLent) (k : ℕ) (h : HasFile i k) where
  abbrev at : ℕ
  at = pair_offset i.list k

  abbrev s : List ℕ
  s = file i k

  abbrev before : List ℕ
  before = take at i.files

  abbrev behind : List ℕ
  behind = drop (pair_end i.list k) i.files

  abbrev struck : List ℕ
  struck = before ++ strike s ++ behind

  inside : at + pair_length i.list k ≤ length i.files
  unfolding pair_end
  inside = ends_inside i h.0 k h.1

  before_long : length before ≡ at
  before_long = length-take-le at i.files (omega (arith, inside))

  as_long : length (strike s) ≡ pair_length i.list k
  as_long = struck_length s ∙ (files_read i k h).0

  struck_is : strike_file i.files i.list k ≡ struck
  unfolding strike_file pair_checks
  struck_is =
      let sound : any (bad_pair i.files i.list) (begun_pairs i.list) 0 ≡ false =
      any_none (bad_pair i.files i.list) (begun_pairs i.list) 0 (λ q from lt. (all_hold (pair_checks i.files i.list) h.0).0 q (omega arith)) in
      rw (sound, lt-leb (whole_pairs i.list) k h.1)

  -- the bytes before it, and behind it
  before_kept : take at struck ≡ before
  before_kept = rw (append_assoc before (strike s) behind) (take_at before (strike s ++ behind) at before_long)

  behind_kept : drop (pair_end i.list k) struck ≡ behind
  unfolding pair_end
  behind_kept = drop_at (before ++ strike s) behind (pair_end i.list k) (omega (arith, length-append before (strike s), before_long, as_long))

  -- file k of the struck buffer, and those before it
  own : file_at struck i.list k ≡ strike s
  unfolding file_at
  own = rw (append_assoc before (strike s) behind, drop_at before (strike s ++ behind) at before_long) (take_at (strike s) behind (pair_length i.list k) as_long)

  others : (m : ℕ) → m < k → file_at struck i.list m ≡ file i m
  unfolding file_at pair_end
  others m lt =
      let on : m + suc (k - (m + 1)) ≡ k = omega arith in
      let from = pair_offset i.list m in
      let n = pair_length i.list m in
      let fits : from + n ≤ at = rw on at (in_order_lem i h.0 m (k - (m + 1)) (omega (arith, h.1))) in
      ap (λ (l : List ℕ). take n (drop from l)) (append_assoc before (strike s) behind)
      ∙ window_before before (strike s ++ behind) (drop at i.files) from n (omega (arith, before_long))
      ∙ ap (λ (l : List ℕ). take n (drop from l)) (take-append-drop at i.files)

  abbrev j : NightLent
  j = lent_for struck i.list i.verdicts i.room

  struck_alone : alone j k ≡ outcome (strike s) (drop (began i k) i.room)
  struck_alone = rw (own, same_files j i refl k others)

  as_struck : (shown_of (alone i k) ≡ shown_of (alone j k)) ⊎ (checking_at k).is_mended i
  as_struck =
      ⊎_elim (λ same. inl (ap shown_of (same ∙ sym struck_alone))) (λ m. inr m)
      (as_if_struck.0 (record { file = s; room = drop (began i k) i.room }))

-- Whether 33 comes, or there is no such file, or the file is struck out.
struck_night : (k : ℕ) (i : NightLent) (b : Bool) → any (bad_pair i.files i.list) (begun_pairs i.list) 0 || leb (whole_pairs i.list) k ≡ b →
    ((checking_at k).answer i ≡ (checking_at k).answer ((checking_at k).strike_out i)) ⊎ (checking_at k).is_mended i
unfolding strike_file pair_checks
struck_night k i true e = inl (rw e)
struck_night k i false e =
    let w = or_false (any (bad_pair i.files i.list) (begun_pairs i.list) 0) (leb (whole_pairs i.list) k) e in
    let all : AllHold (pair_checks i.files i.list) = (λ q lt. any_false (bad_pair i.files i.list) (begun_pairs i.list) 0 w.0 q (omega arith) (omega arith), tt) in
    rw e (as_struck i k (hold_all (pair_checks i.files i.list) all, leb-false (whole_pairs i.list) k w.1))

pub strikes_file : StrikesFile
unfolding pair_end
strikes_file i k h = rw (struck_is i k h) (own i k h, before_kept i k h, behind_kept i k h)

pub night_shows_no_row : NightShowsNoRow
night_shows_no_row k = (hides k, λ i. struck_night k i _ refl)

-- The promise, from the definition's answer, table and room; and an answer that stands for an answer.
pub night_answered :
    {A : Type 0} (meant : Checked ℕ → A) (i : NightLent) (a : A) (verdicts : List (List ℕ)) (room : List ℕ) →
    a ≡ meant (night_of i).answer → verdicts ≡ (night_of i).verdicts → room ≡ (night_of i).room → NightAnswered meant i a verdicts room
night_answered meant i a verdicts room e f g =
    record {
      answer_is = e;
      verdicts_are = f;
      room_is = g;
      each_file = λ k h.
          let t = ((told_in_turn i h.0).1 verdicts room).1 (f, g) in
          promised (checking_at k) (hides k) (λ l. struck_night k l _ refl) _ i _ (λ x. (t.verdict k h.1 x, t.entries k h.1 x));
    }

pub night_answered_as :
    {A : Type 0} (meant : Checked ℕ → A) {i : NightLent} {c : Checked ℕ} {a : A} {verdicts : List (List ℕ)} {room : List ℕ} →
    a ≡ meant c → NightAnswered (λ x. x) i c verdicts room → NightAnswered meant i a verdicts room
night_answered_as meant e h = night_answered meant _ _ _ _ (e ∙ ap meant h.answer_is) h.verdicts_are h.room_is
