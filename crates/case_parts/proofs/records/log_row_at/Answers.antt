-- `log_row_at` meets its contract: the fields are those of the record. Assumes nothing.
use mathlib.Core.Path.{◌∙◌}
use native.Mathlib.Omega.{arith}
use Rattle.definition.specs.11-Layout.{record_bytes}
use Rattle.case_parts.proofs.records.log_row_at.Goals as goal

pub returns : goal.returns
unfolding record_bytes
returns c = let r = c.record_of-bytes.ensures in
    record {
      action = c.read_word.ensures ∙ r.field 0 (omega arith);
      from = c.read_word-2.ensures ∙ r.field 2 (omega arith);
      len = c.read_word-3.ensures ∙ r.field 4 (omega arith);
    }
