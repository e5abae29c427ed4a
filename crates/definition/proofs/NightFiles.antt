-- Request 7: the files of a night by number. The room after them is the entries of each laid end to end over the room lent, and the table so their verdicts over the table lent; so each file's answer can be read off, and nothing else has these answers. Assumes nothing.
use Prim.Native.Nat.{ℕ, zero, suc, ◌+◌, ◌*◌, ◌≤◌, ◌<◌}
use mathlib.Core.Path.{◌≡◌, refl, sym, ap, ◌∙◌}
use mathlib.Core.List.{List, [], ◌∷◌, ◌++◌, map}
use native.Mathlib.Nat.{add-zero}
use native.Mathlib.Numerals.{add-one}
use native.Mathlib.Omega.{arith}
use lib.ListN.{length, get_or, take, drop, set, length-drop, take-append-drop}
use lib.Seq.{length-take-le, drop-drop, drop-cons, get_or-take, get_or-drop, set_split}
use Rattle.definition.proofs.LaidLists.{laid, laid_drop, laid_at, only_laid, laid_more, laid_covers, laid_long}
use Rattle.definition.proofs.NightTurns.{written, verdicts_turn, room_turn, lists_in_turn}
use Rattle.definition.proofs.RangeLaws.{listed_length}
use Rattle.definition.specs.02-Ranges.{listed}
use Rattle.definition.specs.04-Checks.{accepts}
use Rattle.definition.specs.31-Outcome.{Verdict}
use Rattle.definition.specs.32-Numbers.{verdict_entry}
use Rattle.definition.specs.36-Night.{files_of, entries_of, Turns, in_turn, Night, told, night}
use Rattle.definition.specs.71-Nights.{NightLent, night_of, Sound, files_in, file, began, alone, shown_of, FilesTold, ToldInTurn, ListsEndToEnd}

module _ (i : NightLent) where
  -- What file k shows.
  abbrev pub verdict_of : ℕ → Verdict
  verdict_of k = (alone i k).verdict

  abbrev pub wrote_by : ℕ → ℕ
  wrote_by k = entries_of (verdict_of k)

  abbrev pub entries_by : ℕ → List ℕ
  entries_by k = (shown_of (alone i k)).entries

  abbrev pub entry_by : ℕ → List (List ℕ)
  entry_by k = verdict_entry (verdict_of k) ∷ []

  pub began_next : (k : ℕ) → began i (k + 1) ≡ began i k + wrote_by k
  unfolding began
  began_next k = rw (add-one k)

  pub began_first : began i 0 ≡ 0
  unfolding began
  began_first = refl

  -- Its part of the room is there, and its entries are as many as its verdict says.
  pub began_fits : (k : ℕ) → began i k ≤ length i.room
  began_fits zero = omega (arith, began_first)
  began_fits (suc k) =
      let w = written (file i k) (drop (began i k) i.room) in
      rw (← add-one k) (omega (arith, began_next k, w.fits, length-drop (began i k) i.room, began_fits k))

  pub began_few : (k : ℕ) → began i k ≤ 1088 * k
  began_few zero = omega (arith, began_first)
  began_few (suc k) = let w = written (file i k) (drop (began i k) i.room) in rw (← add-one k) (omega (arith, began_next k, w.few, began_few k))

  pub entries_long : (k : ℕ) → length (entries_by k) ≡ wrote_by k
  entries_long k =
      let w = written (file i k) (drop (began i k) i.room) in
      length-take-le (wrote_by k) (alone i k).room (omega (arith, w.long, w.fits))

  room_next : (k : ℕ) → began i (k + 1) ≡ began i k + length (entries_by k)
  room_next k = began_next k ∙ ap (λ (n : ℕ). began i k + n) (sym (entries_long k))

  table_next : (k : ℕ) → k + 1 ≡ k + length (entry_by k)
  table_next k = omega arith

  -- The room and the table after the first k files.
  abbrev pub room_after : ℕ → List ℕ
  room_after k = laid entries_by (began i) i.room k 0

  abbrev pub table_after : ℕ → List (List ℕ)
  table_after k = laid entry_by (λ n. n) i.verdicts k 0

  -- Both have as many entries as before. The room's part that file k gets is as lent; and what one file more makes of both.
  pub room_long : (k : ℕ) → length (room_after k) ≡ length i.room
  room_long k = omega (arith, laid_long entries_by (began i) i.room room_next k 0 (began_fits (0 + k)), began_first)

  pub table_long : (k : ℕ) → k ≤ length i.verdicts → length (table_after k) ≡ length i.verdicts
  table_long k fits = omega (arith, laid_long entry_by (λ n. n) i.verdicts table_next k 0 (omega arith))

  pub part_kept : (k : ℕ) → drop (began i k) (room_after k) ≡ drop (began i k) i.room
  unfolding laid
  part_kept k = laid_drop entries_by (began i) i.room room_next began_first k 0 k (omega arith)

  part_left : (k : ℕ) → drop (wrote_by k) (drop (began i k) i.room) ≡ drop (began i (k + 1)) i.room
  part_left k = drop-drop (wrote_by k) (began i k) i.room ∙ ap (λ (n : ℕ). drop n i.room) (sym (began_next k))

  pub room_more : (k : ℕ) → take (began i k) (room_after k) ++ (alone i k).room ≡ room_after (k + 1)
  room_more k =
      let w = written (file i k) (drop (began i k) i.room) in
      let after : (alone i k).room ≡ entries_by k ++ drop (began i (k + 1)) i.room =
      sym (take-append-drop (wrote_by k) (alone i k).room) ∙ ap (λ (l : List ℕ). entries_by k ++ l) (w.rest ∙ part_left k) in
      ap (λ (l : List ℕ). take (began i k) (room_after k) ++ l) after ∙ laid_more entries_by (began i) i.room room_next began_first k

  pub table_more : (k : ℕ) → k < length i.verdicts → set (table_after k) k (verdict_entry (verdict_of k)) ≡ table_after (k + 1)
  unfolding laid
  table_more k lt =
      let here : drop k (table_after k) ≡ drop k i.verdicts = laid_drop entry_by (λ n. n) i.verdicts table_next refl k 0 k (omega arith) in
      let behind : drop (suc k) (table_after k) ≡ drop (k + 1) i.verdicts =
      ap (λ (n : ℕ). drop n (table_after k)) (sym (add-one k)) ∙ sym (drop-drop 1 k (table_after k)) ∙ ap (drop 1) here ∙ drop-drop 1 k i.verdicts in
      set_split (table_after k) k (verdict_entry (verdict_of k)) (omega (arith, table_long k (omega arith)))
      ∙ ap (λ (l : List (List ℕ)). take k (table_after k) ++ (verdict_entry (verdict_of k) ∷ l)) behind
      ∙ laid_more entry_by (λ n. n) i.verdicts table_next refl k

  -- The files from k on, in the part of the room that those before them leave.
  module _ (n k : ℕ) where
    abbrev from : Turns
    from = in_turn (listed (file i) n k) (drop (began i k) i.room)

  next_from : (n k : ℕ) → in_turn (listed (file i) n (k + 1)) (drop (wrote_by k) (drop (began i k) i.room)) ≡ from n (k + 1)
  next_from n k = rw (part_left k)

  verdicts_from : (n k : ℕ) → (from n k).verdicts ≡ listed verdict_of n k
  unfolding in_turn listed
  verdicts_from zero k = refl
  verdicts_from (suc n) k =
      verdicts_turn (file i k) (listed (file i) n (k + 1)) (drop (began i k) i.room)
      ∙ ap (λ (vs : List Verdict). verdict_of k ∷ vs) (ap (λ (t : Turns). t.verdicts) (next_from n k) ∙ verdicts_from n (k + 1))

  room_from : (n k : ℕ) → (from n k).room ≡ laid entries_by (began i) i.room n k
  unfolding in_turn listed laid
  room_from zero k = refl
  room_from (suc n) k =
      room_turn (file i k) (listed (file i) n (k + 1)) (drop (began i k) i.room)
      ∙ ap (λ (l : List ℕ). entries_by k ++ l) (ap (λ (t : Turns). t.room) (next_from n k) ∙ room_from n (k + 1))

  table_from : (n k : ℕ) → map verdict_entry (listed verdict_of n k) ++ drop (k + n) i.verdicts ≡ laid entry_by (λ m. m) i.verdicts n k
  unfolding listed laid
  table_from zero k = rw (add-zero k)
  table_from (suc n) k = let on : k + suc n ≡ k + 1 + n = omega arith in rw on (ap (λ (l : List (List ℕ)). verdict_entry (verdict_of k) ∷ l) (table_from n (k + 1)))

  -- The whole night, unless 33 comes.
  all_turns : in_turn (files_of i.files i.list) i.room ≡ record { verdicts = listed verdict_of (files_in i) 0; room = room_after (files_in i) }
  unfolding files_of began
  all_turns = λ j. record { verdicts = verdicts_from (files_in i) 0 j; room = room_from (files_in i) 0 j }

  pub night_is : Sound i → night_of i ≡ record { answer = accepts (files_in i); verdicts = table_after (files_in i); room = room_after (files_in i) }
  unfolding night told
  night_is sound =
      let n = files_in i in
      let many : length (listed verdict_of n 0) ≡ n = listed_length verdict_of n 0 in
      let all : 0 + n ≡ n = omega arith in
      let table : map verdict_entry (listed verdict_of n 0) ++ drop n i.verdicts ≡ table_after n = rw all at (table_from n 0) in
      rw (sound, all_turns, many, table)

  -- Its table and its room tell what the files come to, and no others do.
  pub tells : FilesTold i (table_after (files_in i)) (room_after (files_in i))
  unfolding laid
  tells =
      let n = files_in i in
      record {
        verdict = λ k lt.
            let one : k + 0 ≡ k = omega arith in
            rw one at
            (sym (get_or-drop k (table_after n) 0 []) ∙ sym (get_or-take 1 (drop k (table_after n)) 0 [] (omega arith))
            ∙ ap (λ (l : List (List ℕ)). get_or l 0 []) (laid_at entry_by (λ m. m) i.verdicts table_next refl k n lt));
        entries = λ k lt. rw (entries_long k) at (laid_at entries_by (began i) i.room room_next began_first k n lt);
        other_verdicts = laid_drop entry_by (λ m. m) i.verdicts table_next refl n 0 n (omega arith);
        other_entries = laid_drop entries_by (began i) i.room room_next began_first n 0 n (omega arith);
        verdicts_long = omega (arith, laid_covers entry_by (λ m. m) i.verdicts table_next n 0);
      }

  module _ (verdicts : List (List ℕ)) (room : List ℕ) (t : FilesTold i verdicts room) where
    one_verdict : (k : ℕ) → k < files_in i → take 1 (drop k verdicts) ≡ entry_by k
    one_verdict k lt = rw (drop-cons verdicts k [] (omega (arith, t.verdicts_long)), t.verdict k lt)

    only_table : verdicts ≡ table_after (files_in i)
    only_table = only_laid entry_by (λ m. m) i.verdicts table_next (files_in i) verdicts one_verdict t.other_verdicts refl

    only_room : room ≡ room_after (files_in i)
    only_room = only_laid entries_by (began i) i.room room_next (files_in i) room (λ k lt. rw (entries_long k) (t.entries k lt)) t.other_entries began_first

pub lists_end_to_end : ListsEndToEnd
unfolding files_of
lists_end_to_end i sound =
    let turns = all_turns i in
    let l = lists_in_turn (listed (file i) (files_in i) 0) i.room in (
      l.0,
      rw (ap (λ (t : Turns). t.verdicts) turns) at l.1,
      ap (λ (x : Night). x.room) (night_is i sound) ∙ ap (λ (t : Turns). t.room) (sym turns) ∙ l.2,
    )

pub told_in_turn : ToldInTurn
told_in_turn i sound =
    let is = night_is i sound in (
      ap (λ (x : Night). x.answer) is,
      λ verdicts room. (
        λ t. (only_table i verdicts room t ∙ ap (λ (x : Night). x.verdicts) (sym is), only_room i verdicts room t ∙ ap (λ (x : Night). x.room) (sym is)),
        λ e. rw (e.0, e.1, is) (tells i),
      ),
    )
