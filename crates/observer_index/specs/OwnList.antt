-- An agent's own list in an index, and the rows of it marked in the table of what the agent sees.
use Rattle.std.specs.Prelude.{ℕ, ◌+◌, ◌≤◌, ◌<◌, true, ◌≡◌, List, length, get_or}
use Rattle.case_file.specs.Seen.{log_with, hidden_code}
use Rattle.definition.specs.03-Lists.{begins}
use Rattle.definition.specs.11-Layout.{log_part, records_in, field_in}
use Rattle.definition.specs.35-Index.{index_of}
use Rattle.definition.specs.48-Places.{OrderedLog}

-- The table is as built from a log with these rows.
pub record IndexOf (rows index : List ℕ) : Type 0 where
  pub observers : List ℕ
  pub ordered : OrderedLog (log_with rows observers)
  pub as_built : begins (index_of (log_with rows observers)) index ≡ true

-- Every row is hidden.
pub record Hides (views : List ℕ) : Type 0 where
  pub long : length views ≡ 1024
  pub hidden : (k : ℕ) → k < 1024 → get_or views k 0 ≡ hidden_code

-- The `len` entries from `from` on are there, and are numbers of rows.
pub record Listed (rows index : List ℕ) (from len : ℕ) : Type 0 where
  pub there : from + len ≤ length index
  pub short : from + len ≤ 65535
  pub rows_few : records_in rows log_part ≤ 1024
  pub row : (j : ℕ) → from ≤ j → j < from + len → get_or index j 0 < records_in rows log_part

-- The table has the action of each row that is listed, and the others as they were.
pub record Marked (rows index : List ℕ) (from len : ℕ) (old new : List ℕ) : Type 0 where
  pub long : length new ≡ length old
  pub listed : (j : ℕ) → from ≤ j → j < from + len → get_or new (get_or index j 0) 0 ≡ field_in rows log_part (get_or index j 0) 0
  pub others : (k : ℕ) → ((j : ℕ) → from ≤ j → j < from + len → get_or index j 0 ≡ k → ⊥) → get_or new k 0 ≡ get_or old k 0
