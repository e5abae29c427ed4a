-- `label_at` meets its contract: the fields are those of the record. Assumes nothing.
use mathlib.Core.Path.{◌∙◌}
use native.Mathlib.Omega.{arith}
use Rattle.definition.specs.11-Layout.{record_bytes, field}
use Rattle.definition.specs.15-Records.{label_mark, label_formula}
use Rattle.case_parts.proofs.records.label_at.Goals as goal

pub returns : goal.returns
unfolding record_bytes field label_mark label_formula
returns c = let r = c.record_in-bytes.ensures in
    record {
      mark = c.read_word.ensures ∙ r.field 0 (omega arith);
      formula = c.read_word-2.ensures ∙ r.field 2 (omega arith);
    }
