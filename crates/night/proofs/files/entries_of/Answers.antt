-- `entries_of` meets its contract: each arm has the entries of its case. Assumes nothing.
use Rattle.std.proofs.Common.{rules}
use Rattle.checker.specs.Meanings.{verdict_meant}
use Rattle.definition.specs.36-Night.{entries_of}
use Rattle.night.proofs.files.entries_of.Goals as goal

pub returns-in-Ok-Passed : goal.returns-in-Ok-Passed
unfolding entries_of verdict_meant
returns-in-Ok-Passed c = search rules

pub returns-in-Ok-NoneOwed : goal.returns-in-Ok-NoneOwed
unfolding entries_of verdict_meant
returns-in-Ok-NoneOwed c = search rules

pub returns-in-Err : goal.returns-in-Err
unfolding entries_of verdict_meant
returns-in-Err c = search rules
