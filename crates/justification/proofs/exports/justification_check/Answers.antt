-- `justification_check` meets its contract: it is `check` in numbers. Assumes nothing.
use Rattle.definition.specs.32-Numbers.{verdict_numbers}
use Rattle.definition.proofs.PromiseLaws.{answered_as}
use Rattle.justification.proofs.exports.justification_check.Goals as goal

pub returns : goal.returns
returns c = answered_as verdict_numbers c.from.ensures c.check.ensures
