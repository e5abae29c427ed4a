-- `justification_night` meets its contract: it is `check_night` in numbers. Assumes nothing.
use Rattle.definition.specs.32-Numbers.{count_numbers}
use Rattle.definition.proofs.NightPromises.{night_answered_as}
use Rattle.justification.proofs.exports.justification_night.Goals as goal

pub returns : goal.returns
returns c = night_answered_as count_numbers c.from.ensures c.check_night.ensures
