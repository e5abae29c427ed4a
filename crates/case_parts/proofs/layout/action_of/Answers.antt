-- `action_of` meets its contract: it reads the header where the definition does. Assumes nothing.
use native.Mathlib.Omega.{arith}
use Rattle.definition.specs.11-Layout.{action_of}
use Rattle.definition.proofs.PartLaws.{header_inside}
use Rattle.case_parts.proofs.layout.action_of.Goals as goal

pub read_word-requires : goal.read_word-requires
read_word-requires c = omega (arith, header_inside c.args.file.now c.requires)

pub returns : goal.returns
unfolding action_of
returns c = c.read_word.ensures
