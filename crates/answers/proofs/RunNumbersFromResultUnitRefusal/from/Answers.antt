-- A run's `from` gives its numbers: each arm has those of its case. Assumes nothing.
use Rattle.std.proofs.Common.{rules}
use Rattle.definition.specs.32-Numbers.{run_numbers}
use Rattle.words.specs.Meanings.{run_meant}
use Rattle.answers.specs.Meanings.{run_numbers_meant}
use Rattle.answers.proofs.RunNumbersFromResultUnitRefusal.from.Goals as goal

pub returns-in-Ok : goal.returns-in-Ok
unfolding run_meant run_numbers_meant run_numbers
returns-in-Ok c = search rules

pub returns-in-Err : goal.returns-in-Err
unfolding run_meant run_numbers_meant run_numbers
returns-in-Err c = search rules
