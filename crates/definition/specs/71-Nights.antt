-- Request 7 of document 02: what a night's call promises, of 33, of each file and of all entries. Proved in proofs/NightTurns, proofs/NightFiles, proofs/NightPairs and proofs/NightPromises. Numbers of the request stand here as such, and not by their names in 36-Night.
use Rattle.std.specs.Prelude.{ℕ, zero, suc, ◌+◌, ◌*◌, ◌-◌, ◌≤◌, ◌<◌, cond, ◌||◌, ◌≡◌, ◌⊎◌, ◌↔◌, List, [], ◌∷◌, ◌++◌, map, length, get_or, take, drop, leb}
use Rattle.definition.specs.02-Ranges.{any, listed}
use Rattle.definition.specs.03-Lists.{join_all}
use Rattle.definition.specs.04-Checks.{Checked, accepts, refuses, in_order}
use Rattle.definition.specs.17-Case.{case_of}
use Rattle.definition.specs.19-Rewriting.{strike}
use Rattle.definition.specs.31-Outcome.{Verdict, passed, none_owed, refused, Outcome, outcome}
use Rattle.definition.specs.32-Numbers.{verdict_entry, count_numbers}
use Rattle.definition.specs.33-Text.{lent_room}
use Rattle.definition.specs.36-Night.{pair_offset, pair_length, pair_end, whole_pairs, begun_pairs, bad_pair, pair_checks, file_at, entries_of, in_turn, Night, night}
use Rattle.definition.specs.43-Alike.{Alike}
use Rattle.definition.specs.44-Demands.{Cited, Entry, HidesRows, AnswersStruck, RefusedAside, Mended}
use Rattle.definition.specs.45-Promises.{Promised}

-- What is lent for a night: the files in one buffer, the list of pairs, the table of verdicts, and the room.
pub record NightLent : Type 0 where
  pub files : List ℕ
  pub list : List ℕ
  pub verdicts : List (List ℕ)
  pub room : List ℕ

abbrev pub lent_for : (files list : List ℕ) → (verdicts : List (List ℕ)) → (room : List ℕ) → NightLent
lent_for files list verdicts room = record { files = files; list = list; verdicts = verdicts; room = room }

abbrev pub night_of : NightLent → Night
night_of i = night i.files i.list i.verdicts i.room

-- What the numbers of the table and of the answer are.
abbrev pub NumbersTold : Type 0
NumbersTold =
    ((d r : ℕ) → verdict_entry (passed d r) ≡ 0 ∷ d ∷ r ∷ [])
    × (verdict_entry none_owed ≡ 1 ∷ 0 ∷ 0 ∷ [])
    × ((n p : ℕ) → verdict_entry (refused n p) ≡ 2 ∷ n ∷ p ∷ [])
    × ((n : ℕ) → count_numbers (accepts n) ≡ record { kind = 0; first = n; second = 0 })
    × ((n p : ℕ) → count_numbers (refuses n p) ≡ record { kind = 2; first = n; second = p })

-- The 32-bit number in the four bytes at i, "low byte first".
abbrev pub Reads : (list : List ℕ) → (i n : ℕ) → Type 0
Reads list i n = n ≡ get_or list i 0 + 256 * get_or list (i + 1) 0 + 65536 * get_or list (i + 2) 0 + 16777216 * get_or list (i + 3) 0

-- Where the numbers of a pair stand in the list.
abbrev pub PairsRead : Type 0
PairsRead = (list : List ℕ) (k : ℕ) → Reads list (8 * k) (pair_offset list k) × Reads list (8 * k + 4) (pair_length list k)

-- Pair k "begins before the last one's end, ends beyond the buffer, is cut short or is the 65th".
abbrev pub BadPair : (files list : List ℕ) → ℕ → Type 0
BadPair files list k =
    ((0 < k) × (pair_offset list k < pair_offset list (k - 1) + pair_length list (k - 1)))
    ⊎ ((length files < pair_offset list k + pair_length list k)
    ⊎ ((length list < 8 * (k + 1))
    ⊎ (64 ≤ k)))

-- 33 comes exactly with the lowest such pair that the list begins; nothing else is refused, and then no entry changes.
abbrev pub RefusedForPair : Type 0
RefusedForPair =
    (i : NightLent) (n p : ℕ) →
    ((night_of i).answer ≡ refuses n p)
    ↔ ((n ≡ 33) × (8 * p < length i.list) × BadPair i.files i.list p × ((q : ℕ) → q < p → BadPair i.files i.list q → ⊥))

abbrev pub PairKeepsAll : Type 0
PairKeepsAll = (i : NightLent) (n p : ℕ) → (night_of i).answer ≡ refuses n p → ((night_of i).verdicts ≡ i.verdicts) × ((night_of i).room ≡ i.room)

-- 33 does not come.
abbrev pub Sound : NightLent → Type 0
Sound i = in_order (pair_checks i.files i.list) ≡ accepts tt

-- That is so exactly if no pair that the list begins is at fault.
abbrev pub SoundExactly : Type 0
SoundExactly = (i : NightLent) → Sound i ↔ ((k : ℕ) → 8 * k < length i.list → BadPair i.files i.list k → ⊥)

-- How many files there are then, and that there is a file k.
abbrev pub files_in : NightLent → ℕ
files_in i = whole_pairs i.list

abbrev pub HasFile : NightLent → ℕ → Type 0
HasFile i k = Sound i × (k < files_in i)

-- Each is the bytes of the buffer from its offset on, as many as its length.
abbrev pub file : NightLent → ℕ → List ℕ
file i k = file_at i.files i.list k

abbrev pub FilesRead : Type 0
FilesRead =
    (i : NightLent) (k : ℕ) → HasFile i k →
    (length (file i k) ≡ pair_length i.list k)
    × ((j : ℕ) → j < pair_length i.list k → get_or (file i k) j 0 ≡ get_or i.files (pair_offset i.list k + j) 0)

-- Where the part of the room begins that file k gets: where the passes before it stopped writing. Each file is checked alone in its part of the room that was lent.
unfoldable pub began : NightLent → ℕ → ℕ
began i zero = 0
began i (suc k) = let from = began i k in from + entries_of (outcome (file i k) (drop from i.room)).verdict

abbrev pub alone : NightLent → ℕ → Outcome
alone i k = outcome (file i k) (drop (began i k) i.room)

-- What is shown of file k: its verdict, and the entries that it writes.
pub record Shown : Type 0 where
  pub verdict : Verdict
  pub entries : List ℕ

abbrev pub shown_of : Outcome → Shown
shown_of o = record { verdict = o.verdict; entries = take (entries_of o.verdict) o.room }

-- A table of verdicts and a room that tell what the files come to: verdict k and the entries of file k are those of the check of file k alone in its part of the room;
-- the verdicts behind the last file, and the entries behind the last pass, are as lent.
pub record FilesTold (i : NightLent) (verdicts : List (List ℕ)) (room : List ℕ) : Type 0 where
  pub verdict : (k : ℕ) → k < files_in i → get_or verdicts k [] ≡ verdict_entry (alone i k).verdict
  pub entries : (k : ℕ) → k < files_in i → take (entries_of (alone i k).verdict) (drop (began i k) room) ≡ (shown_of (alone i k)).entries
  pub other_verdicts : drop (files_in i) verdicts ≡ drop (files_in i) i.verdicts
  pub other_entries : drop (began i (files_in i)) room ≡ drop (began i (files_in i)) i.room
  pub verdicts_long : files_in i ≤ length verdicts

-- Unless 33 comes, the answer is the number of files, and the table and the room tell what they come to; no others do so.
abbrev pub ToldInTurn : Type 0
ToldInTurn =
    (i : NightLent) → Sound i →
    ((night_of i).answer ≡ accepts (files_in i))
    × ((verdicts : List (List ℕ)) (room : List ℕ) → FilesTold i verdicts room ↔ ((verdicts ≡ (night_of i).verdicts) × (room ≡ (night_of i).room)))

-- There are at most 64 files, one for each eight bytes of the list, so a table of 64 verdicts has one for each; and no entry of it, and none of the room, is added or lost.
abbrev pub FilesFit : Type 0
FilesFit =
    (i : NightLent) →
    (Sound i → (files_in i ≤ 64) × (8 * files_in i ≡ length i.list))
    × (length i.verdicts ≡ 64 → length (night_of i).verdicts ≡ 64)
    × (length (night_of i).room ≡ length i.room)

-- "A refused file changes no entry and stops no other": without it the room is the same, and so is every other verdict. So it is with a file that owes nothing.
abbrev pub NoPass : Verdict → Type 0
NoPass v = (d r : ℕ) → v ≡ passed d r → ⊥

abbrev pub RefusedStopsNone : Type 0
RefusedStopsNone =
    (before behind : List (List ℕ)) (s room : List ℕ) (vs ws : List Verdict) (v : Verdict) →
    (in_turn (before ++ s ∷ behind) room).verdicts ≡ vs ++ v ∷ ws → length vs ≡ length before → NoPass v →
    ((in_turn (before ++ behind) room).verdicts ≡ vs ++ ws) × ((in_turn (before ++ behind) room).room ≡ (in_turn (before ++ s ∷ behind) room).room)

-- The list that a file of this verdict writes: what it cites where it passes, else nothing.
pub data Wrote (s : List ℕ) : Verdict → List ℕ → Type 0 where
  its_lists : {duties rows : List ℕ} → Cited (case_of s) duties rows → Wrote s (passed (length duties) (length rows)) (duties ++ rows)
  nothing_owed : Wrote s none_owed []
  nothing_refused : {n p : ℕ} → Wrote s (refused n p) []

pub data AllWrote : List (List ℕ) → List Verdict → List (List ℕ) → Type 0 where
  no_file : AllWrote [] [] []
  one_file : {s l : List ℕ} {v : Verdict} {ss ls : List (List ℕ)} {vs : List Verdict} → Wrote s v l → AllWrote ss vs ls → AllWrote (s ∷ ss) (v ∷ vs) (l ∷ ls)

-- The entries written are the lists of the files that pass, end to end; all behind them are as lent.
abbrev pub ListsEndToEnd : Type 0
ListsEndToEnd =
    (i : NightLent) → Sound i →
    (ls : List (List ℕ)) × AllWrote (listed (file i) (files_in i) 0) (listed (λ k. (alone i k).verdict) (files_in i) 0) ls × ((night_of i).room ≡ join_all ls ++ drop (length (join_all ls)) i.room)

-- In a room of 64 times 1,088 entries no file is refused by 23.
abbrev pub LongRoomSuffices : Type 0
LongRoomSuffices = (i : NightLent) → 64 * 1088 ≤ length i.room → (k : ℕ) → HasFile i k → (n : ℕ) → (alone i k).verdict ≡ refused 23 n → ⊥

-- There each file shows what it shows in a room of its own, as the program lends it: nothing depends on another file.
abbrev pub LongRoomAlone : Type 0
LongRoomAlone = (i : NightLent) → 64 * 1088 ≤ length i.room → (k : ℕ) → HasFile i k → shown_of (alone i k) ≡ shown_of (outcome (file i k) lent_room)

-- Demand 3, file by file.

-- The buffer with every row of file k struck out that its agent does not see. Where 33 comes, or there is no such file, it stays as it is.
unfoldable pub strike_file : (files list : List ℕ) → ℕ → List ℕ
strike_file files list k =
    cond (any (bad_pair files list) (begun_pairs list) 0 || leb (whole_pairs list) k) files
    (take (pair_offset list k) files ++ strike (file_at files list k) ++ drop (pair_end list k) files)

-- "The hidden-row rule holds file by file, given equal answers before and no 33 in either run." The answer here is what is shown of file k. Both runs share the room; where the files lie may differ, and so may the other files, and the table.
abbrev pub checking_at : (k : ℕ) → Entry NightLent Shown
checking_at k =
    record {
      answer = λ i. shown_of (alone i k);
      is_alike = λ i j. HasFile i k × HasFile j k × Alike (file i k) (file j k) × ((m : ℕ) → m < k → (alone i m).verdict ≡ (alone j m).verdict) × (i.room ≡ j.room);
      is_aside = λ i. RefusedAside (λ n p. (alone i k).verdict ≡ refused n p);
      strike_out = λ i. lent_for (strike_file i.files i.list k) i.list i.verdicts i.room;
      is_mended = λ i. (p : ℕ) × ((alone i k).verdict ≡ refused 5 p) × Mended (file i k) p;
    }

-- Striking out file k changes that file alone: it is the file struck out, and no byte outside of it changes.
abbrev pub StrikesFile : Type 0
StrikesFile =
    (i : NightLent) (k : ℕ) → HasFile i k →
    let at = pair_offset i.list k in
    let end = pair_offset i.list k + pair_length i.list k in
    let struck = strike_file i.files i.list k in
    (file_at struck i.list k ≡ strike (file i k)) × (take at struck ≡ take at i.files) × (drop end struck ≡ drop end i.files)

abbrev pub NightShowsNoRow : Type 0
NightShowsNoRow = (k : ℕ) → HidesRows (checking_at k) × AnswersStruck (checking_at k)

-- With every file struck out, all verdicts and the whole room are the same, unless check 5 refuses a file at an unseen row whose action is at fault, which striking out mends.
abbrev pub AllStruckAlike : Type 0
AllStruckAlike =
    (ss : List (List ℕ)) (room : List ℕ) →
    (in_turn ss room ≡ in_turn (map strike ss) room)
    ⊎ ((k : ℕ) × (p : ℕ) × (k < length ss) × (get_or (in_turn ss room).verdicts k none_owed ≡ refused 5 p) × Mended (get_or ss k []) p)

-- What a night's call promises: the answer, by what it stands for, every entry of the table and of the room; and of each file what the check of it promises, demand 3 with it.
pub record NightAnswered {A : Type 0} (meant : Checked ℕ → A) (i : NightLent) (answer : A) (verdicts : List (List ℕ)) (room : List ℕ) : Type 0 where
  pub answer_is : answer ≡ meant (night_of i).answer
  pub verdicts_are : verdicts ≡ (night_of i).verdicts
  pub room_is : room ≡ (night_of i).room
  pub each_file :
      (k : ℕ) → HasFile i k →
      Promised {B = List ℕ × List ℕ} (checking_at k) (λ t. (verdict_entry t.verdict, t.entries)) i
      (get_or verdicts k [], take (entries_of (alone i k).verdict) (drop (began i k) room))
