-- `obligation_at` meets its contract: the fields are those of the record. Assumes nothing.
use mathlib.Core.Path.{◌∙◌}
use native.Mathlib.Omega.{arith}
use Rattle.definition.specs.11-Layout.{record_bytes, field}
use Rattle.definition.specs.15-Records.{obligation_mark, obligation_action, obligation_due, obligation_row}
use Rattle.case_parts.proofs.records.obligation_at.Goals as goal

pub returns : goal.returns
unfolding record_bytes field obligation_mark obligation_action obligation_due obligation_row
returns c = let r = c.record_in-bytes.ensures in
    record {
      mark = c.read_word.ensures ∙ r.field 0 (omega arith);
      action = c.read_word-2.ensures ∙ r.field 2 (omega arith);
      due = c.read_word-3.ensures ∙ r.field 4 (omega arith);
      row = c.read_word-4.ensures ∙ r.field 6 (omega arith);
    }
