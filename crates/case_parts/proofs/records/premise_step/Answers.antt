-- `premise_step` meets its contract: the entry is its record. Assumes nothing.
use mathlib.Core.Path.{◌∙◌}
use native.Mathlib.Omega.{arith}
use Rattle.definition.specs.11-Layout.{record_bytes, field}
use Rattle.definition.specs.15-Records.{premise_step}
use Rattle.case_parts.proofs.records.premise_step.Goals as goal

pub returns : goal.returns
unfolding record_bytes field premise_step
returns c = c.read_word.ensures ∙ c.record_in-bytes.ensures.field 0 (omega arith)
