-- `observer` meets its contract: the entry is its record. Assumes nothing.
use mathlib.Core.Path.{◌∙◌}
use native.Mathlib.Omega.{arith}
use Rattle.definition.specs.11-Layout.{record_bytes}
use Rattle.definition.specs.15-Records.{observer}
use Rattle.case_parts.proofs.records.observer.Goals as goal

pub returns : goal.returns
unfolding record_bytes observer
returns c = c.read_word.ensures ∙ c.record_of-bytes.ensures.field 0 (omega arith)
