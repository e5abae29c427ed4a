-- The table of the rows that each-use obligations name.
use Rattle.std.specs.Prelude.{ℕ, Bool, ◌≡◌, List, length}
use Rattle.definition.specs.02-Ranges.{any}
use Rattle.definition.specs.17-Case.{Case}
use Rattle.definition.specs.23-Duties.{uses_up}
use Rattle.tables.specs.Sets.{marks}

-- It has a flag for each row, which tells whether an each-use obligation before o names it.
pub record NamedBefore (c : Case) (o : ℕ) (t : List Bool) : Type 0 where
  pub long : length t ≡ 1024
  pub flag : (k : ℕ) → marks t k ≡ any (uses_up c k) o 0
