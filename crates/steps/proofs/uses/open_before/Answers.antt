-- `open_before` meets its contract. Assumes nothing.
use Rattle.std.proofs.Common.{rules}
use Rattle.definition.specs.22-Steps.{is_adding}
use Rattle.step_shape.specs.Meanings.{effect_meant}
use Rattle.steps.proofs.uses.open_before.Goals as goal

pub has-requires : goal.has-requires
unfolding effect_meant
has-requires c = search rules

pub has-requires-then-has : goal.has-requires-then-has
unfolding effect_meant
has-requires-then-has c = search rules

pub returns-then-has : goal.returns-then-has
unfolding is_adding effect_meant
returns-then-has c = search rules

pub returns-else-has : goal.returns-else-has
unfolding is_adding effect_meant
returns-else-has c = search rules
