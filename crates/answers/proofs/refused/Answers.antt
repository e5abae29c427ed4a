-- `refused` meets its contract. Assumes nothing.
use Rattle.std.proofs.Common.{rules}
use Rattle.definition.specs.32-Numbers.{verdict_numbers, count_numbers}
use Rattle.answers.specs.Meanings.{verdict_numbers_meant}
use Rattle.answers.proofs.refused.Goals as goal

pub returns : goal.returns
unfolding verdict_numbers_meant verdict_numbers count_numbers
returns c = search rules
