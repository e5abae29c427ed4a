-- `failed` meets its contract. Assumes nothing.
use Rattle.std.proofs.Common.{rules}
use Rattle.definition.specs.32-Numbers.{run_numbers}
use Rattle.answers.specs.Meanings.{run_numbers_meant}
use Rattle.answers.proofs.failed.Goals as goal

pub returns : goal.returns
unfolding run_numbers_meant run_numbers
returns c = search rules
