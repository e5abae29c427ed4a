-- The layout of a case file: header and parts, and checks 1 and 2. The numbers of the layout stand here, but for the places of the fields within a record, which are in 14-Book and 15-Records.
use Rattle.std.specs.Prelude.{ℕ, zero, suc, ◌+◌, ◌*◌, ◌-◌, ◌/◌, ◌%◌, ◌≡◌, refl, Bool, cond, not, ◌&&◌, ◌||◌, List, [], ◌∷◌, length, get_or, take, drop, eqb, ltb}
use Rattle.definition.specs.01-Words.{word}
use Rattle.definition.specs.04-Checks.{Check, single, each}

-- "Agent, audited action (a formula number), then eight pairs of offset and length in bytes, sorted by offset." Document 02, request 6: "the header gains the audit hour at byte 36 .. and has 38 bytes".
abbrev pub header_bytes : ℕ
header_bytes = 38

-- "The largest file has 47,910."
abbrev pub most_bytes : ℕ
most_bytes = 47910

-- The parts, by their places.
abbrev pub formula_part : ℕ
formula_part = 0

abbrev pub log_part : ℕ
log_part = 1

abbrev pub observer_part : ℕ
observer_part = 2

abbrev pub condition_part : ℕ
condition_part = 3

abbrev pub obligation_part : ℕ
obligation_part = 4

abbrev pub label_part : ℕ
label_part = 5

abbrev pub step_part : ℕ
step_part = 6

abbrev pub premise_part : ℕ
premise_part = 7

-- The bytes of a formula's row.
abbrev pub row_bytes : ℕ
row_bytes = 8

-- Each part's "record bytes". Document 02, request 6: "the obligation record grows to eight bytes".
unfoldable pub record_bytes : ℕ → ℕ
record_bytes p = get_or (row_bytes ∷ 6 ∷ 2 ∷ 2 ∷ 8 ∷ 4 ∷ 10 ∷ 2 ∷ []) p 1

-- Each part's "most records".
unfoldable pub most_records : ℕ → ℕ
most_records p = get_or (1024 ∷ 1024 ∷ 4096 ∷ 64 ∷ 64 ∷ 32 ∷ 2048 ∷ 2048 ∷ []) p 0

-- The bytes of the first so many parts where each has its most records.
unfoldable pub full_parts : ℕ → ℕ
full_parts zero = 0
full_parts (suc p) = full_parts p + most_records p * record_bytes p

-- The longest file has its header and eight such parts.
pub longest_file : most_bytes ≡ header_bytes + full_parts 8
unfolding full_parts most_records record_bytes
longest_file = refl

unfoldable pub agent_of : List ℕ → ℕ
agent_of s = word s 0

unfoldable pub action_of : List ℕ → ℕ
action_of s = word s 2

unfoldable pub hour_of : List ℕ → ℕ
hour_of s = word s 36

unfoldable pub offset : List ℕ → ℕ → ℕ
offset s p = word s (4 * p + 4)

unfoldable pub size : List ℕ → ℕ → ℕ
size s p = word s (4 * p + 6)

-- Where part p ends.
unfoldable pub end : List ℕ → ℕ → ℕ
end s p = offset s p + size s p

-- The number of records of part p, as the header has it.
unfoldable pub count : List ℕ → ℕ → ℕ
count s p = size s p / record_bytes p

-- The bytes of part p, as far as the file has them.
unfoldable pub part : List ℕ → ℕ → List ℕ
part s p = take (size s p) (drop (offset s p) s)

-- Of the bytes b of a part p: how many records they are, and the number at byte i of record k.
unfoldable pub records_in : List ℕ → (p : ℕ) → ℕ
records_in b p = length b / record_bytes p

unfoldable pub field_in : List ℕ → (p k i : ℕ) → ℕ
field_in b p k i = word b (record_bytes p * k + i)

-- The same number of a file's part.
unfoldable pub field : List ℕ → (p k i : ℕ) → ℕ
field s p k i = field_in (part s p) p k i

-- The first part begins behind the header, "each next one is where the last part ended, the last part ends the file."
unfoldable pub due_offset : List ℕ → ℕ → ℕ
due_offset s p = cond (eqb p 0) header_bytes (end s (p - 1))

-- Check 1: the file is shorter than a header or longer than the largest file, place 0; "refusals 1 and 2 .. use the new figures".
unfoldable pub bad_length : List ℕ → Bool
bad_length s = ltb (length s) header_bytes || ltb most_bytes (length s)

-- Records in the second part though the first, whose spans would name them, has none.
unfoldable pub orphans : List ℕ → ℕ → ℕ → Bool
orphans s p q = eqb (size s p) 0 && ltb 0 (size s q)

-- The part of check 2 that all parts share: "its offset is not the one due, its length is no whole number of records or over the limit, it ends beyond the file".
unfoldable pub is_misplaced : List ℕ → ℕ → Bool
is_misplaced s p =
    not (eqb (offset s p) (due_offset s p))
    || not (eqb (size s p % record_bytes p) 0)
    || ltb (most_records p) (count s p)
    || ltb (length s) (end s p)

-- Check 2: "a faulty part", place: part. "A part is faulty if its offset is not the one due, its length is no whole number of records or over the limit,
-- it ends beyond the file, or, for part 7, before the file's end. Observers without log rows make part 2 faulty, premises without steps part 7."
unfoldable pub faulty_part : List ℕ → ℕ → Bool
faulty_part s p =
    is_misplaced s p
    || (eqb p premise_part && ltb (end s p) (length s))
    || (eqb p observer_part && orphans s log_part observer_part)
    || (eqb p premise_part && orphans s step_part premise_part)

-- Checks 1 and 2.
unfoldable pub layout_checks : List ℕ → List Check
layout_checks s =
    single 1 0 (bad_length s)
    ∷ each 2 8 (faulty_part s)
    ∷ []

-- What an evaluation unfolds of this file.
unfoldable pub evaluated_layout : Unit {0}
unfolding record_bytes most_records full_parts agent_of action_of hour_of offset size end count part records_in field_in field due_offset bad_length orphans is_misplaced faulty_part layout_checks
evaluated_layout = tt
