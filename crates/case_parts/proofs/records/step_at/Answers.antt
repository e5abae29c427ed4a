-- `step_at` meets its contract: the fields are those of the record. Assumes nothing.
use mathlib.Core.Path.{◌∙◌}
use native.Mathlib.Omega.{arith}
use Rattle.definition.specs.11-Layout.{record_bytes, field}
use Rattle.definition.specs.15-Records.{step_rule, step_formula, step_argument, step_from, step_count}
use Rattle.case_parts.proofs.records.step_at.Goals as goal

pub returns : goal.returns
unfolding record_bytes field step_rule step_formula step_argument step_from step_count
returns c = let r = c.record_in-bytes.ensures in
    record {
      rule = c.read_word.ensures ∙ r.field 0 (omega arith);
      formula = c.read_word-2.ensures ∙ r.field 2 (omega arith);
      argument = c.read_word-3.ensures ∙ r.field 4 (omega arith);
      from = c.read_word-4.ensures ∙ r.field 6 (omega arith);
      len = c.read_word-5.ensures ∙ r.field 8 (omega arith);
    }
