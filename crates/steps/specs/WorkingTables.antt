-- How the code's tables are read as the definition's state.
use Rattle.std.specs.Prelude.{ℕ, Bool, ◌≡◌, List, length}
use Rattle.tables.specs.Sets.{marks, left_in}
use Rattle.definition.specs.22-Steps.{State}

-- The three tables as a state: what the steps leave behind, the rows cited, the obligations discharged.
unfoldable pub state_of : List ℕ → List Bool → List Bool → State
state_of l c d = record { left = left_in l; cited = marks c; discharged = marks d }

-- Every table has its full length.
pub record Tables (l : List ℕ) (c d : List Bool) : Type 0 where
  pub left : length l ≡ 2048
  pub cited : length c ≡ 1024
  pub discharged : length d ≡ 64
