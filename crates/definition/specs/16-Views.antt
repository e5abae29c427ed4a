-- What the agent sees of each row of a log.
use Rattle.std.specs.Prelude.{ℕ, Bool, true, false, cond, ◌&&◌, List, eqb, ltb}
use Rattle.definition.specs.01-Words.{absent}
use Rattle.definition.specs.02-Ranges.{any}
use Rattle.definition.specs.11-Layout.{agent_of}
use Rattle.definition.specs.13-Formulas.{Formula}
use Rattle.definition.specs.14-Book.{tree_in}
use Rattle.definition.specs.15-Records.{Log, log_of, rows_in, observers_in, row_action, row_from, row_count, observer}

-- "A row is seen by an agent whose number is among the observer entries its span names, as far as the part has them, struck or not; otherwise it is unseen."
unfoldable pub seen_in : Log → (agent k : ℕ) → Bool
seen_in g agent k = any (λ j. ltb j (observers_in g) && eqb (observer g.observers j) agent) (row_count g k) (row_from g k)

-- The same of the file's log and its agent, the audited one.
abbrev pub is_seen : List ℕ → ℕ → Bool
is_seen s k = seen_in (log_of s) (agent_of s) k

-- What a log row is to the agent: hidden if unseen, struck or not; otherwise struck, document 01's word for a row whose action is absent, or it shows its action.
-- The rules get these views, never the log.
pub data RowView : Type 0 where
  hidden : RowView
  struck : RowView
  shows : Formula → RowView

unfoldable pub view_of : List Formula → (seen : Bool) → (action : ℕ) → RowView
view_of l false a = hidden
view_of l true a = cond (eqb a absent) struck (shows (tree_in l a))

-- Row k as the agent sees it; l are the trees of the formulas. A number beyond the log shows nothing.
unfoldable pub row_view : Log → (agent : ℕ) → List Formula → ℕ → RowView
row_view g agent l k = view_of l (ltb k (rows_in g) && seen_in g agent k) (row_action g k)

-- What an evaluation unfolds of this file.
unfoldable pub evaluated_views : Unit {0}
unfolding seen_in view_of row_view
evaluated_views = tt
