-- A verdict's `from` gives its numbers: each arm has those of its case. Assumes nothing.
use Rattle.std.proofs.Common.{rules}
use Rattle.definition.specs.32-Numbers.{verdict_numbers}
use Rattle.checker.specs.Meanings.{verdict_meant}
use Rattle.answers.specs.Meanings.{verdict_numbers_meant}
use Rattle.answers.proofs.VerdictNumbersFromResultVerdictRefusal.from.Goals as goal

pub returns-in-Ok-Passed : goal.returns-in-Ok-Passed
unfolding verdict_meant verdict_numbers_meant verdict_numbers
returns-in-Ok-Passed c = search rules

pub returns-in-Ok-NoneOwed : goal.returns-in-Ok-NoneOwed
unfolding verdict_meant verdict_numbers_meant verdict_numbers
returns-in-Ok-NoneOwed c = search rules

pub returns-in-Err : goal.returns-in-Err
unfolding verdict_meant
returns-in-Err c = search rules
