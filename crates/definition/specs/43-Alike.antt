-- When two case files are alike to the agent.
use Rattle.std.specs.Prelude.{ℕ, ◌<◌, true, false, ◌≡◌, ◌⊎◌, List}
use Rattle.definition.specs.11-Layout.{formula_part, condition_part, obligation_part, label_part, step_part, premise_part, agent_of, action_of, hour_of, part}
use Rattle.definition.specs.15-Records.{Log, log_of, rows_in, row_action}
use Rattle.definition.specs.16-Views.{seen_in}

-- Row k is seen in both logs with the same action, or unseen in both. "Two rows have the same action if both action numbers are equal, or both are absent":
-- absent is a number too, so that is equality.
abbrev pub RowAlike : (agent : ℕ) → Log → Log → ℕ → Type 0
RowAlike agent g h k =
    ((seen_in g agent k ≡ true) × (seen_in h agent k ≡ true) × (row_action g k ≡ row_action h k))
    ⊎ ((seen_in g agent k ≡ false) × (seen_in h agent k ≡ false))

-- Equally many rows, and each row alike. Observers may differ, and so may all else in an unseen row.
pub record LogAlike (agent : ℕ) (g h : Log) : Type 0 where
  pub rows : rows_in g ≡ rows_in h
  pub row : (k : ℕ) → k < rows_in g → RowAlike agent g h k

-- The same agent, audited action, audit hour, formulas, conditions, obligations, labels, steps and premises, and alike logs.
pub record Alike (s t : List ℕ) : Type 0 where
  pub agent : agent_of s ≡ agent_of t
  pub action : action_of s ≡ action_of t
  pub hour : hour_of s ≡ hour_of t
  pub formulas : part s formula_part ≡ part t formula_part
  pub conditions : part s condition_part ≡ part t condition_part
  pub obligations : part s obligation_part ≡ part t obligation_part
  pub labels : part s label_part ≡ part t label_part
  pub steps : part s step_part ≡ part t step_part
  pub premises : part s premise_part ≡ part t premise_part
  pub log : LogAlike (agent_of s) (log_of s) (log_of t)
