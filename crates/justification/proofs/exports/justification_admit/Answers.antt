-- `justification_admit` meets its contract: it is the case file's `admit` in numbers. Assumes nothing.
use mathlib.Core.Path.{ap, ◌∙◌}
use Rattle.definition.specs.32-Numbers.{run_numbers}
use Rattle.definition.proofs.PromiseLaws.{admission_answered}
use Rattle.justification.proofs.exports.justification_admit.Goals as goal

pub returns : goal.returns
returns c = admission_answered run_numbers _ _ (c.from.ensures ∙ ap run_numbers c.admit.ensures)
