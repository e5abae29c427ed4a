-- `leaves` meets its contract. Assumes nothing.
use Rattle.definition.specs.22-Steps.{leaves}
use Rattle.step_shape.specs.Meanings.{effect_meant}
use Rattle.steps.proofs.step.leaves.Goals as goal

pub add-requires : goal.add-requires
unfolding effect_meant
add-requires c = rw c.in-Adds.is at c.requires

pub close-requires : goal.close-requires
unfolding effect_meant
close-requires c = rw c.in-Closes.is at c.requires

pub returns-in-Keeps : goal.returns-in-Keeps
unfolding leaves effect_meant
returns-in-Keeps c = rw c.in-Keeps.is

pub returns-in-Adds : goal.returns-in-Adds
unfolding leaves effect_meant
returns-in-Adds c = rw c.in-Adds.is c.add.ensures

pub returns-in-Closes : goal.returns-in-Closes
unfolding leaves effect_meant
returns-in-Closes c = rw c.in-Closes.is c.close.ensures
