-- What the program tells: how long its text is, or that there is none.
use Rattle.std.specs.Prelude.{ℕ, ◌<◌, ◌≡◌, List, [], ◌++◌, length, ℤ}
use Rattle.std.specs.Prelude as std
use Rattle.std.proofs.Math.Option.{Option, none, some}
use Rattle.std.proofs.lemmas.List.Edits.{sets}
use Rattle.definition.specs.03-Lists.{join_all}
use Rattle.definition.specs.34-Program.{so_far, read_all, most_read, printed, NoneEmpty}
use Rattle.check_case.specs.Input.{given, last_answer, answers}
use Rattle.check_case.specs.Written.{Written, IsPrefixLen}

-- The text that is due stands at the start of the buffer, which is otherwise as before; where none is due, nothing is told and the buffer is as before.
abbrev pub Tells : Option (List ℕ) → (before after : List ℕ) → std.Option ℕ → Type 0
Tells (some due) before after (std.Some end) = Written before 0 due after end × IsPrefixLen end after
Tells (some due) before after std.None = ⊥
Tells none before after (std.Some end) = ⊥
Tells none before after std.None = after ≡ before

-- The program's answer: the system has given pieces, and then the answer that stands in `got` and `piece`; these end the reading, and what the definition prints of them is told. The case has all their bytes from its start on, and is otherwise as before.
pub record Judged (got : ℤ) (piece case_before case_after before after : List ℕ) (told : std.Option ℕ) : Type 0 where
  pub pieces : List (List ℕ)
  pub none_empty : NoneEmpty pieces
  pub unfilled : length (join_all pieces) < most_read
  pub buffer : case_after ≡ sets case_before 0 (join_all pieces ++ given (last_answer most_read pieces got piece))
  pub ended : (bytes : List ℕ) → read_all most_read (so_far []) (answers most_read pieces got piece) ≡ so_far bytes → ⊥
  pub tells : Tells (printed (read_all most_read (so_far []) (answers most_read pieces got piece))) before after told
