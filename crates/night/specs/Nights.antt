-- What the functions over the files tell.
use Rattle.std.specs.Prelude.{ℕ, ◌≡◌, List, Result}
use Rattle.checker.specs.Meanings.{verdict_meant}
use Rattle.checker.specs.declared.verdict.Verdict.{Verdict}
use Rattle.words.specs.declared.runs.Refusal.{Refusal}
use Rattle.definition.specs.31-Outcome.{outcome}
use Rattle.definition.specs.71-Nights.{NightLent, night_of}

-- One file in its part of the room: verdict and every entry.
pub record CheckedAlone (s room : List ℕ) (r : Result Verdict Refusal) (after : List ℕ) : Type 0 where
  pub is : verdict_meant r ≡ (outcome s room).verdict
  pub room_is : after ≡ (outcome s room).room

-- All files: every entry of the table and of the room.
pub record AllTold (i : NightLent) (verdicts : List (List ℕ)) (room : List ℕ) : Type 0 where
  pub verdicts_are : verdicts ≡ (night_of i).verdicts
  pub room_is : room ≡ (night_of i).room
