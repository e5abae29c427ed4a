-- What reading promises, in the words of the definition: what a buffer holds of the input, and what the system answered.
use Rattle.std.specs.Prelude.{ℕ, ◌-◌, ◌≤◌, ◌<◌, ◌≡◌, List, [], ◌∷◌, ◌++◌, map, length, take, min, ℤ, pos, negsuc, Result, Ok, Err}
use Rattle.std.proofs.lemmas.List.Edits.{sets}
use Rattle.definition.specs.03-Lists.{join_all}
use Rattle.definition.specs.34-Program.{Answer, gives, error, so_far, whole, failed, read_on, read_all, NoneEmpty}
use Rattle.definition.specs.34-Program as program
use Rattle.check_case.specs.declared.input.Reading.{Reading}
use Rattle.check_case.specs.declared.input.Reading.TheVariants.{More, Whole, Failed}

-- The bytes counted stand at the start of the buffer.
abbrev pub reading_meant : Reading → List ℕ → program.Reading
reading_meant (More count) buffer = so_far (take count buffer)
reading_meant (Whole count) buffer = whole (take count buffer)
reading_meant Failed buffer = failed

-- So many bytes are in the buffer, and where there may be more there is room for another.
abbrev pub Held : Reading → List ℕ → Type 0
Held (More count) buffer = count < length buffer
Held (Whole count) buffer = count ≤ length buffer
Held Failed buffer = Unit {0}

-- What a read answered, as a number: how many bytes, or -1 for an error.
abbrev pub got_of : {E : Type 0} → Result ℕ E → ℤ
got_of (Ok count) = pos count
got_of (Err e) = negsuc 0

-- How many bytes an answer counts of a piece that has so many.
abbrev pub clamp_len : ℤ → (most : ℕ) → ℕ
clamp_len (pos count) most = min count most
clamp_len (negsuc count) most = 0

-- What the answer of a read into this piece means: a negative one is an error, any other counts bytes of the piece.
abbrev pub answer_meant : ℤ → List ℕ → Answer
answer_meant (pos count) piece = gives (take count piece)
answer_meant (negsuc count) piece = error

-- The same where only so many bytes of the piece were lent to the read.
abbrev pub answer_within : (room : ℕ) → ℤ → List ℕ → Answer
answer_within room got piece = answer_meant got (take room piece)

-- The bytes that an answer gives.
abbrev pub given : Answer → List ℕ
given (gives bytes) = bytes
given error = []

-- One answer is taken, with so many bytes read before it: the definition's reading goes on by it, and the buffer has its bytes behind those and is otherwise as before.
pub record Taken (done : ℕ) (answer : Answer) (before after : List ℕ) (r : Reading) : Type 0 where
  pub reading : reading_meant r after ≡ read_on (length before) (so_far (take done before)) answer
  pub held : Held r after
  pub buffer : after ≡ sets before done (given answer)

-- Reading has ended, well or with an error.
abbrev pub Ended : Reading → Type 0
Ended (More count) = ⊥
Ended (Whole count) = Unit {0}
Ended Failed = Unit {0}

-- The last answer, behind these pieces, into a buffer that takes so many bytes.
abbrev pub last_answer : (most : ℕ) → List (List ℕ) → ℤ → List ℕ → Answer
last_answer most pieces got piece = answer_within (most - length (join_all pieces)) got piece

-- All answers: these pieces, and the last.
abbrev pub answers : (most : ℕ) → List (List ℕ) → ℤ → List ℕ → List Answer
answers most pieces got piece = map gives pieces ++ last_answer most pieces got piece ∷ []

-- The system has given pieces that did not fill the buffer, and then the answer that stands in `got` and `piece`; that one ended the reading. The buffer has all their bytes from its start on, and is otherwise as before.
pub record ReadFrom (got : ℤ) (piece before after : List ℕ) (r : Reading) : Type 0 where
  pub pieces : List (List ℕ)
  pub none_empty : NoneEmpty pieces
  pub unfilled : length (join_all pieces) < length before
  pub reading : reading_meant r after ≡ read_all (length before) (so_far []) (answers (length before) pieces got piece)
  pub ended : Ended r
  pub held : Held r after
  pub buffer : after ≡ sets before 0 (join_all pieces ++ given (last_answer (length before) pieces got piece))
