-- `justification_index` meets its contract: it is `build` in numbers. Assumes nothing.
use mathlib.Core.Path.{ap, ◌∙◌}
use Rattle.definition.specs.32-Numbers.{count_numbers}
use Rattle.justification.proofs.exports.justification_index.Goals as goal

pub returns : goal.returns
returns c = let b = c.build.ensures in
    (c.from.ensures ∙ ap count_numbers b.answer, b.room_is)
