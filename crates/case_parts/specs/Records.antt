-- The records as the code reads them: each field as it stands in the part's bytes, or in the file.
use Rattle.std.specs.Prelude.{ℕ, ◌+◌, ◌≤◌, ◌≡◌, List, length}
use Rattle.definition.specs.01-Words.{word}
use Rattle.definition.specs.11-Layout.{log_part, record_bytes, field_in}
use Rattle.definition.specs.15-Records.{obligation_mark, obligation_action, obligation_due, obligation_row, label_mark, label_formula, step_rule, step_formula, step_argument, step_from, step_count}
use Rattle.case_parts.specs.declared.records.LogRow.{LogRow}
use Rattle.case_parts.specs.declared.records.Obligation.{Obligation}
use Rattle.case_parts.specs.declared.records.Label.{Label}
use Rattle.case_parts.specs.declared.records.Step.{Step}

-- r are the bytes of record k of a part p, which has the bytes b.
pub record Recorded (b : List ℕ) (p k : ℕ) (r : List ℕ) : Type 0 where
  pub long : length r ≡ record_bytes p
  pub field : (i : ℕ) → i + 2 ≤ record_bytes p → word r i ≡ field_in b p k i

pub record RowFields (rows : List ℕ) (k : ℕ) (t : LogRow) : Type 0 where
  pub action : t.action ≡ field_in rows log_part k 0
  pub from : t.from ≡ field_in rows log_part k 2
  pub len : t.len ≡ field_in rows log_part k 4

pub record ObligationFields (s : List ℕ) (k : ℕ) (t : Obligation) : Type 0 where
  pub mark : t.mark ≡ obligation_mark s k
  pub action : t.action ≡ obligation_action s k
  pub due : t.due ≡ obligation_due s k
  pub row : t.row ≡ obligation_row s k

pub record LabelFields (s : List ℕ) (k : ℕ) (t : Label) : Type 0 where
  pub mark : t.mark ≡ label_mark s k
  pub formula : t.formula ≡ label_formula s k

pub record StepFields (s : List ℕ) (k : ℕ) (t : Step) : Type 0 where
  pub rule : t.rule ≡ step_rule s k
  pub formula : t.formula ≡ step_formula s k
  pub argument : t.argument ≡ step_argument s k
  pub from : t.from ≡ step_from s k
  pub len : t.len ≡ step_count s k
