-- `part_size` meets its contract: it reads the header where the definition does. Assumes nothing.
use borrow.Author.Rules.{rules}
use Rattle.definition.specs.11-Layout.{size}
use Rattle.case_parts.proofs.layout.part_size.Goals as goal

pub returns : goal.returns
unfolding size
returns c = search rules
