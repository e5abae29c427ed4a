-- What check 5 comes to at a row, and the table of what the agent sees: entry k, of row k, is the number of the row's action where the agent sees it, absent for a struck row, and 65,534 for a hidden one.
use Rattle.std.specs.Prelude.{ℕ, ◌+◌, ◌<◌, Bool, cond, ◌≡◌, List, length, get_or, eqb, Option, Some, None}
use Rattle.definition.specs.01-Words.{absent}
use Rattle.definition.specs.02-Ranges.{any, lowest}
use Rattle.definition.specs.03-Lists.{Kept}
use Rattle.definition.specs.04-Checks.{Checked, accepts, refuses}
use Rattle.definition.specs.11-Layout.{agent_of}
use Rattle.definition.specs.13-Formulas.{Formula}
use Rattle.definition.specs.14-Book.{tree_in}
use Rattle.definition.specs.15-Records.{Log, log_of, rows_in, formulas, row_action, row_from, row_count, observer, bad_observer, bad_log_row}
use Rattle.definition.specs.16-Views.{RowView, hidden, struck, shows, seen_in}

-- The log whose rows and observers have these bytes.
abbrev pub log_with : (rows observers : List ℕ) → Log
log_with r o = record { rows = r; observers = o }

-- What the table has for a hidden row. No formula has this number.
abbrev pub hidden_code : ℕ
hidden_code = 65534

unfoldable pub view_code : (seen : Bool) → (action : ℕ) → ℕ
view_code seen a = cond seen a hidden_code

-- What an entry of the table says. l are the trees of the file's formulas.
unfoldable pub code_view : List Formula → ℕ → RowView
code_view l c = cond (eqb c hidden_code) hidden (cond (eqb c absent) struck (shows (tree_in l c)))

-- The table with the entries of the first n rows, and the others as they were.
pub record SeenUpTo (g : Log) (agent n : ℕ) (old new : List ℕ) : Type 0 where
  pub long : length new ≡ length old
  pub low : (k : ℕ) → k < n → get_or new k 0 ≡ view_code (seen_in g agent k) (row_action g k)
  pub rest : Kept n old new

-- What a list of observers says: none where it is at fault, or else whether the agent is among them. b are the bytes of the log's observers.
unfoldable pub list_answer : List ℕ → (agent from len : ℕ) → Option Bool
list_answer b agent from len = cond (any (bad_observer b from) len from) None (Some (any (λ j. eqb (observer b j) agent) len from))

-- What a row comes to: none where it is bad, or else its entry in the table and where its span ends.
unfoldable pub row_answer : Log → (agent : ℕ) → List Formula → ℕ → Option (ℕ × ℕ)
row_answer g agent l k = cond (bad_log_row g l k) None (Some (view_code (seen_in g agent k) (row_action g k), row_from g k + row_count g k))

-- The rows that get entries: those before the first bad one.
unfoldable pub first_bad_row : Log → List Formula → ℕ
first_bad_row g l = lowest (bad_log_row g l) (rows_in g) 0

-- And none where a run before check 5 refuses.
unfoldable pub rows_after : Checked (Unit {0}) → List ℕ → ℕ
rows_after (accepts x) s = first_bad_row (log_of s) (formulas s)
rows_after (refuses n p) s = 0

-- The table after checks 1 to 5 of the file s, of which this run is those before 5.
abbrev pub SeenAfter : Checked (Unit {0}) → List ℕ → (old new : List ℕ) → Type 0
SeenAfter run s old new = SeenUpTo (log_of s) (agent_of s) (rows_after run s) old new
