-- What the code's answer with the room stands for.
use Rattle.std.specs.Prelude.{◌≡◌, ℕ, List, Result}
use Rattle.definition.specs.35-Index.{Built}
use Rattle.words.specs.Meanings.{run_meant}
use Rattle.words.specs.declared.runs.Refusal.{Refusal}

-- The answer and the room are the definition's.
pub record BuiltAs (due : Built) (r : Result ℕ Refusal) (after : List ℕ) : Type 0 where
  pub answer : run_meant r ≡ due.answer
  pub room_is : after ≡ due.room
