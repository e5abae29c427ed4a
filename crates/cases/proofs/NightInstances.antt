-- Request 7: an instance of each of its statements that has a condition. Assumes nothing.
use Prim.Native.Nat.{ℕ, zero, suc, ◌*◌, ◌≤◌, ◌<◌}
use mathlib.Core.Path.{◌≡◌, refl, sym, ap}
use mathlib.Core.Logic.{◌⊎◌, inl, inr}
use mathlib.Core.List.{List, [], ◌∷◌, ◌++◌}
use native.Mathlib.Omega.{arith}
use lib.ListN.{length, get_or, drop, replicate, length-replicate}
use Rattle.definition.proofs.NightFiles.{told_in_turn, lists_end_to_end}
use Rattle.definition.proofs.NightPairs.{refused_for_pair, pair_keeps_all, files_read, files_fit}
use Rattle.definition.proofs.NightPromises.{night_room_suffices, long_room_alone, night_shows_no_row}
use Rattle.definition.proofs.NightTurns.{refused_stops_none}
use Rattle.definition.specs.02-Ranges.{listed}
use Rattle.definition.specs.03-Lists.{join_all}
use Rattle.definition.specs.04-Checks.{refuses}
use Rattle.definition.specs.31-Outcome.{passed, refused, outcome}
use Rattle.definition.specs.33-Text.{lent_room}
use Rattle.definition.specs.36-Night.{in_turn}
use Rattle.definition.specs.53-Desk.{lent, grant, visit}
use Rattle.definition.specs.55-HiddenRows.{two_rows, one_way, other_way, ways_alike, never_both, made_if_passed}
use Rattle.definition.proofs.NotAside.{made_if_refused}
use Rattle.definition.specs.63-Nights.{longs, lent_verdicts, unseen, two_duties, gap, built_nights}
use Rattle.definition.specs.71-Nights.{NightLent, lent_for, night_of, BadPair, files_in, HasFile, file, began, alone, shown_of, FilesTold, AllWrote, strike_file, checking_at}

-- Grant, and behind it a file with a row that its agent does not see, in which the row of this number is cited; and a night that is alike to that agent: another first file with the same verdict, gaps, another action in that row, another observer, and another table.
abbrev night_with : (cited : ℕ) → NightLent
night_with cited = lent_for (grant ++ one_way 0 cited) (longs (0 ∷ 108 ∷ 108 ∷ 124 ∷ [])) lent_verdicts lent

abbrev other_with : (cited : ℕ) → NightLent
other_with cited = lent_for (gap ++ visit (0 ∷ []) ++ gap ++ other_way 4 cited) (longs (2 ∷ 144 ∷ 148 ∷ 126 ∷ [])) [] lent

abbrev one_night : NightLent
one_night = night_with 0

-- Each has a file 1, and it is the one meant.
pub has_file : (cited : ℕ) → HasFile (night_with cited) 1 × HasFile (other_with cited) 1
unfolding built_nights two_rows
has_file cited = ((refl, omega arith), (refl, omega arith))

pub files_are : (cited : ℕ) → (file (night_with cited) 1 ≡ one_way 0 cited) × (file (other_with cited) 1 ≡ other_way 4 cited)
unfolding built_nights two_rows
files_are cited = (refl, refl)

-- The verdicts before it are the same.
same_before : (cited m : ℕ) → m < 1 → (alone (night_with cited) m).verdict ≡ (alone (other_with cited) m).verdict
unfolding built_nights two_rows began
same_before cited zero lt = refl
same_before cited (suc m) lt = absurd (omega arith)

-- So is what it shows, unless it is left aside: where it cites the row that is seen it passes, and where it cites the other, 16 refuses it.
shown : (cited : ℕ) → ((checking_at 1).is_aside (night_with cited) → ⊥) → ((checking_at 1).is_aside (other_with cited) → ⊥) → shown_of (alone (night_with cited) 1) ≡ shown_of (alone (other_with cited) 1)
shown cited =
    (night_shows_no_row 1).0 (night_with cited) (other_with cited)
    ((has_file cited).0, (has_file cited).1, rw ((files_are cited).0, (files_are cited).1) (ways_alike 0 1 0 4 cited), same_before cited, refl)

passes_in : (i : NightLent) → (alone i 1).verdict ≡ passed 0 1 → (checking_at 1).is_aside i → ⊥
passes_in i = made_if_passed (file i 1) (drop (began i 1) i.room) 0 1

refused_in : (i : NightLent) → (alone i 1).verdict ≡ refused 16 0 → (checking_at 1).is_aside i → ⊥
refused_in i = made_if_refused (file i 1) (drop (began i 1) i.room) 16 0 (omega arith) (inr (omega arith))

pub same_passed : shown_of (alone (night_with 0) 1) ≡ shown_of (alone (other_with 0) 1)
unfolding built_nights two_rows began
same_passed = shown 0 (passes_in (night_with 0) refl) (passes_in (other_with 0) refl)

pub same_refused : shown_of (alone (night_with 1) 1) ≡ shown_of (alone (other_with 1) 1)
unfolding built_nights two_rows began
same_refused = shown 1 (refused_in (night_with 1) refl) (refused_in (other_with 1) refl)

-- Its unseen row struck out: the buffer is another, and the answer is the same.
pub struck_shown : (shown_of (alone one_night 1) ≡ shown_of (alone ((checking_at 1).strike_out one_night) 1)) ⊎ (checking_at 1).is_mended one_night
struck_shown = (night_shows_no_row 1).1 one_night

pub struck_differs : ((checking_at 1).strike_out one_night).files ≡ one_night.files → ⊥
unfolding built_nights two_rows strike_file
struck_differs e = let z : ◌≡◌ {A = ℕ} 255 0 = ap (λ (l : List ℕ). get_or l 200 0) e in omega (arith, z)

-- "Given equal answers before": where they differ, so may the verdict of the same file. In a room of one entry Grant passes alone, and not behind another that passed.
pub answers_before_matter : ((in_turn (grant ∷ grant ∷ []) (901 ∷ [])).verdicts ≡ passed 0 1 ∷ refused 23 1 ∷ []) × ((in_turn (unseen ∷ grant ∷ []) (901 ∷ [])).verdicts ≡ refused 16 0 ∷ passed 0 1 ∷ [])
unfolding built_nights
answers_before_matter = (refl, refl)

-- What is told of the night, and where its file 1 is read.
pub one_told : FilesTold one_night (night_of one_night).verdicts (night_of one_night).room
one_told = ((told_in_turn one_night (has_file 0).0.0).1 _ _).1 (refl, refl)

pub file_1_read : get_or (file one_night 1) 2 0 ≡ get_or one_night.files 110 0
unfolding built_nights
file_1_read = (files_read one_night 1 (has_file 0).0).1 2 (omega arith)

-- Its lists, end to end, and how many files it has.
pub one_lists : (ls : List (List ℕ)) × AllWrote (listed (file one_night) (files_in one_night) 0) (listed (λ k. (alone one_night k).verdict) (files_in one_night) 0) ls × ((night_of one_night).room ≡ join_all ls ++ drop (length (join_all ls)) lent)
one_lists = lists_end_to_end one_night (has_file 0).0.0

pub one_counted : (files_in one_night ≤ 64) × (8 * files_in one_night ≡ length one_night.list)
one_counted = (files_fit one_night).0 (has_file 0).0.0

-- A file that is refused, left out.
pub without_refused : (in_turn (grant ∷ grant ∷ []) lent).room ≡ (in_turn (grant ∷ unseen ∷ grant ∷ []) lent).room
unfolding built_nights
without_refused = (refused_stops_none (grant ∷ []) (grant ∷ []) unseen lent (passed 0 1 ∷ []) (passed 0 1 ∷ []) (refused 16 0) refl refl (λ d r e. never_both (sym e))).1

-- 33, both ways: a second pair that begins a byte early, and one that ends a byte beyond the buffer, with which nothing changes.
abbrev early : NightLent
early = lent_for grant (longs (0 ∷ 108 ∷ 107 ∷ 1 ∷ [])) lent_verdicts lent

pub second_early : BadPair grant early.list 1
unfolding built_nights
second_early = ((refused_for_pair early 33 1).0 refl).2

abbrev beyond : NightLent
beyond = lent_for grant (longs (0 ∷ 109 ∷ [])) lent_verdicts lent

pub first_beyond : (night_of beyond).answer ≡ refuses 33 0
unfolding built_nights
first_beyond = (refused_for_pair beyond 33 0).1 (refl, omega arith, inr (inl (omega arith)), λ q lt. absurd (omega arith))

pub beyond_keeps : ((night_of beyond).verdicts ≡ lent_verdicts) × ((night_of beyond).room ≡ lent)
beyond_keeps = pair_keeps_all beyond 33 0 first_beyond

-- A room of 64 times 1,088 entries.
abbrev long_room : NightLent
long_room = lent_for (grant ++ two_duties) (longs (0 ∷ 108 ∷ 108 ∷ 214 ∷ [])) lent_verdicts (replicate 69632 0)

pub not_23 : (n : ℕ) → (alone long_room 1).verdict ≡ refused 23 n → ⊥
unfolding built_nights
not_23 = night_room_suffices long_room (omega (arith, length-replicate {A = ℕ} 69632 0)) 1 (refl, omega arith)

pub as_alone : shown_of (alone long_room 1) ≡ shown_of (outcome (file long_room 1) lent_room)
unfolding built_nights
as_alone = long_room_alone long_room (omega (arith, length-replicate {A = ℕ} 69632 0)) 1 (refl, omega arith)
