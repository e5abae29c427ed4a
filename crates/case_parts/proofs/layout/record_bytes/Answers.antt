-- `record_bytes` meets its contract: it looks into the same table. Assumes nothing.
use Rattle.std.proofs.Common.{rules}
use Rattle.definition.specs.11-Layout.{record_bytes}
use Rattle.case_parts.proofs.layout.record_bytes.Goals as goal

pub returns : goal.returns
unfolding record_bytes
returns c = search rules
