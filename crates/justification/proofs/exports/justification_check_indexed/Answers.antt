-- `justification_check_indexed` meets its contract: it is `check_through` in numbers. Assumes nothing.
use Rattle.definition.specs.32-Numbers.{verdict_numbers}
use Rattle.definition.proofs.IndexPromises.{answered_through_as}
use Rattle.justification.proofs.exports.justification_check_indexed.Goals as goal

pub returns : goal.returns
returns c = answered_through_as verdict_numbers c.from.ensures c.check_through.ensures
