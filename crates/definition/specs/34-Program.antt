-- The program: it reads a case from standard input, and prints the answer to what it has read. What cannot be read whole is not judged: a part of a case is another case.
-- The statements at the end are proved in proofs/ReadingLaws and proofs/RoomLaws.
use Rattle.std.specs.Prelude.{ℕ, ◌+◌, ◌≤◌, ◌<◌, ◌≡◌, ◌⊎◌, cond, List, [], ◌∷◌, ◌++◌, map, length, take, ltb}
use Rattle.std.proofs.Math.Option.{Option, none, some}
use Rattle.definition.specs.03-Lists.{join_all}
use Rattle.definition.specs.11-Layout.{most_bytes}
use Rattle.definition.specs.31-Outcome.{refused, outcome}
use Rattle.definition.specs.33-Text.{lent_room, answer_text}

-- "The bytes read": at most one more than the longest file has, so that a longer input is refused for its length.
abbrev pub most_read : ℕ
most_read = most_bytes + 1

-- What the system answers to one read: bytes, of which none are the end of the input, or an error.
pub data Answer : Type 0 where
  gives : (bytes : List ℕ) → Answer
  error : Answer

-- How far reading has come: there may be more; all is read that is to be read; or a read has failed.
pub data Reading : Type 0 where
  so_far : (bytes : List ℕ) → Reading
  whole : (bytes : List ℕ) → Reading
  failed : Reading

-- So many bytes at most are read; with that many, reading ends.
unfoldable pub filled : (most : ℕ) → List ℕ → Reading
filled most bytes = cond (ltb (length bytes) most) (so_far bytes) (whole (take most bytes))

-- One answer more.
unfoldable pub read_on : (most : ℕ) → Reading → Answer → Reading
read_on most (so_far bytes) (gives []) = whole bytes
read_on most (so_far bytes) (gives (b ∷ bs)) = filled most (bytes ++ b ∷ bs)
read_on most (so_far bytes) error = failed
read_on most (whole bytes) answer = whole bytes
read_on most failed answer = failed

-- The answers in order.
unfoldable pub read_all : (most : ℕ) → Reading → List Answer → Reading
read_all most reading [] = reading
read_all most reading (answer ∷ answers) = read_all most (read_on most reading answer) answers

-- What the program prints on standard output.
unfoldable pub printed : Reading → Option (List ℕ)
printed (so_far bytes) = none
printed (whole bytes) = some (answer_text bytes)
printed failed = none

-- Each piece has a byte at least.
abbrev pub NoneEmpty : List (List ℕ) → Type 0
NoneEmpty [] = Unit {0}
NoneEmpty (piece ∷ pieces) = (0 < length piece) × NoneEmpty pieces

-- However an input is cut into pieces, all of it is read, up to so many bytes; nothing that comes behind its end shows.
abbrev pub CutsDoNotShow : Type 0
CutsDoNotShow =
    (most : ℕ) (pieces : List (List ℕ)) → NoneEmpty pieces → (behind : List Answer) →
    read_all most (so_far []) (map gives pieces ++ gives [] ∷ behind) ≡ whole (take most (join_all pieces))

-- An error before so many bytes are there is never taken for the end.
abbrev pub ErrorsShow : Type 0
ErrorsShow =
    (most : ℕ) (pieces : List (List ℕ)) → NoneEmpty pieces → length (join_all pieces) < most → (behind : List Answer) →
    read_all most (so_far []) (map gives pieces ++ error ∷ behind) ≡ failed

-- What is read whole is all that the system gave before it told the end, or the first so many bytes of what it gave: nothing is judged half read.
abbrev pub NothingHalfRead : Type 0
NothingHalfRead =
    (most : ℕ) (answers : List Answer) (bytes : List ℕ) → read_all most (so_far []) answers ≡ whole bytes →
    (pieces : List (List ℕ)) × (behind : List Answer) × (bytes ≡ take most (join_all pieces))
    × ((answers ≡ map gives pieces ++ gives [] ∷ behind) ⊎ ((answers ≡ map gives pieces ++ behind) × (most ≤ length (join_all pieces))))

-- What lies behind the bytes read changes no outcome.
abbrev pub UnreadDoesNotShow : Type 0
UnreadDoesNotShow = (s room : List ℕ) → outcome (take most_read s) room ≡ outcome s room

-- The room that the program lends is never too short.
abbrev pub LentRoomSuffices : Type 0
LentRoomSuffices = (s : List ℕ) (n : ℕ) → (outcome s lent_room).verdict ≡ refused 23 n → ⊥

-- What an evaluation unfolds of this file.
unfoldable pub evaluated_program : Unit {0}
unfolding filled read_on read_all printed
evaluated_program = tt
