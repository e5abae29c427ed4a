-- `most_records` meets its contract: it looks into the same table. Assumes nothing.
use Rattle.std.proofs.Common.{rules}
use Rattle.definition.specs.11-Layout.{most_records}
use Rattle.case_parts.proofs.layout.most_records.Goals as goal

pub returns : goal.returns
unfolding most_records
returns c = search rules
