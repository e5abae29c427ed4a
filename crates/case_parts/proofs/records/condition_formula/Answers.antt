-- `condition_formula` meets its contract: the entry is its record. Assumes nothing.
use mathlib.Core.Path.{◌∙◌}
use native.Mathlib.Omega.{arith}
use Rattle.definition.specs.11-Layout.{record_bytes, field}
use Rattle.definition.specs.15-Records.{condition_formula}
use Rattle.case_parts.proofs.records.condition_formula.Goals as goal

pub returns : goal.returns
unfolding record_bytes field condition_formula
returns c = c.read_word.ensures ∙ c.record_in-bytes.ensures.field 0 (omega arith)
