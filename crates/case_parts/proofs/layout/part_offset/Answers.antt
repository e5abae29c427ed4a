-- `part_offset` meets its contract: it reads the header where the definition does. Assumes nothing.
use borrow.Author.Rules.{rules}
use Rattle.definition.specs.11-Layout.{offset}
use Rattle.case_parts.proofs.layout.part_offset.Goals as goal

pub returns : goal.returns
unfolding offset
returns c = search rules
