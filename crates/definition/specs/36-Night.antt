-- Document 02, request 7: a night's cases in one call. Check 33 of the list that says where the files are; then file after file.
use Rattle.std.specs.Prelude.{ℕ, ◌+◌, ◌*◌, ◌-◌, ◌/◌, Bool, cond, ◌||◌, List, [], ◌∷◌, ◌++◌, map, length, take, drop, eqb, leb, ltb}
use Rattle.definition.specs.01-Words.{long}
use Rattle.definition.specs.02-Ranges.{listed}
use Rattle.definition.specs.04-Checks.{Check, each, Checked, accepts, refuses, in_order}
use Rattle.definition.specs.31-Outcome.{Verdict, passed, none_owed, refused, outcome}
use Rattle.definition.specs.32-Numbers.{verdict_entry}

-- "Up to 64 case files lie in one buffer".
abbrev pub most_files : ℕ
most_files = 64

-- "A second lists their 32-bit offsets and lengths in pairs."
abbrev pub pair_bytes : ℕ
pair_bytes = 8

unfoldable pub pair_offset : (list : List ℕ) → ℕ → ℕ
pair_offset list k = long list (pair_bytes * k)

unfoldable pub pair_length : (list : List ℕ) → ℕ → ℕ
pair_length list k = long list (pair_bytes * k + 4)

-- Where pair k ends. A sum here has as many bits as it needs.
unfoldable pub pair_end : (list : List ℕ) → ℕ → ℕ
pair_end list k = pair_offset list k + pair_length list k

-- Where the pair before it ends; the first may begin anywhere.
unfoldable pub last_end : (list : List ℕ) → ℕ → ℕ
last_end list k = cond (eqb k 0) 0 (pair_end list (k - 1))

-- How many pairs the list has that are whole; and how many it begins, of which the last may be cut short.
unfoldable pub whole_pairs : (list : List ℕ) → ℕ
whole_pairs list = length list / pair_bytes

unfoldable pub begun_pairs : (list : List ℕ) → ℕ
begun_pairs list = (length list + pair_bytes - 1) / pair_bytes

-- Check 33: "a pair that begins before the last one's end, ends beyond the buffer, is cut short or is the 65th, place the lowest, from 0".
unfoldable pub bad_pair : (files list : List ℕ) → ℕ → Bool
bad_pair files list k =
    ltb (pair_offset list k) (last_end list k)
    || ltb (length files) (pair_end list k)
    || leb (whole_pairs list) k
    || leb most_files k

unfoldable pub pair_checks : (files list : List ℕ) → List Check
pair_checks files list = each 33 (begun_pairs list) (bad_pair files list) ∷ []

-- The bytes of file k, and all files in the list's order.
unfoldable pub file_at : (files list : List ℕ) → ℕ → List ℕ
file_at files list k = take (pair_length list k) (drop (pair_offset list k) files)

unfoldable pub files_of : (files list : List ℕ) → List (List ℕ)
files_of files list = listed (file_at files list) (whole_pairs list) 0

-- How many entries of the room a file has written that has this verdict.
unfoldable pub entries_of : Verdict → ℕ
entries_of (passed d r) = d + r
entries_of none_owed = 0
entries_of (refused n p) = 0

-- What files come to one after the other: a verdict for each, and the room afterwards.
pub record Turns : Type 0 where
  pub verdicts : List Verdict
  pub room : List ℕ

-- "Verdict k and what is then written are those of file k checked alone with the part of the one result room that begins where earlier passes stopped writing."
unfoldable pub in_turn : (files : List (List ℕ)) → (room : List ℕ) → Turns
in_turn [] room = record { verdicts = []; room = room }
in_turn (s ∷ ss) room =
    let o = outcome s room in
    let n = entries_of o.verdict in
    let rest = in_turn ss (drop n o.room) in
    record { verdicts = o.verdict ∷ rest.verdicts; room = take n o.room ++ rest.room }

-- What the call comes to: how many files were checked, or the refusal; and the table of verdicts and the room afterwards.
pub record Night : Type 0 where
  pub answer : Checked ℕ
  pub verdicts : List (List ℕ)
  pub room : List ℕ

-- The verdicts stand in the table's first entries. With 33 there is "no file checked", and no entry changes.
unfoldable pub told : Checked (Unit {0}) → Turns → (verdicts : List (List ℕ)) → (room : List ℕ) → Night
told (accepts x) t verdicts room = let n = length t.verdicts in record { answer = accepts n; verdicts = map verdict_entry t.verdicts ++ drop n verdicts; room = t.room }
told (refuses n p) t verdicts room = record { answer = refuses n p; verdicts = verdicts; room = room }

unfoldable pub night : (files list : List ℕ) → (verdicts : List (List ℕ)) → (room : List ℕ) → Night
night files list verdicts room = told (in_order (pair_checks files list)) (in_turn (files_of files list) room) verdicts room

-- What an evaluation unfolds of this file.
unfoldable pub evaluated_night : Unit {0}
unfolding pair_offset pair_length pair_end last_end whole_pairs begun_pairs bad_pair pair_checks file_at files_of entries_of in_turn told night
evaluated_night = tt
