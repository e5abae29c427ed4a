-- What the code answers is what the definition's check comes to.
use Rattle.std.proofs.Common.{rules}
use Rattle.definition.specs.04-Checks.{try, check}
use Rattle.words.specs.Meanings.{run_meant}
use Rattle.words.proofs.runs.single.Goals as goal

pub returns-then-fault : goal.returns-then-fault
unfolding run_meant try check
returns-then-fault c = search rules

pub returns-else-fault : goal.returns-else-fault
unfolding run_meant try check
returns-else-fault c = search rules
