-- `unlike_rule` meets its contract: its tests, in order. Assumes nothing.
use Rattle.std.proofs.Common.{rules}
use Rattle.step_shape.specs.RuleFit.{unlike_rule}
use Rattle.step_shape.specs.Meanings.{shape_meant}
use Rattle.step_shape.proofs.shape.unlike_rule.Goals as goal

pub returns-then-shape-len : goal.returns-then-shape-len
unfolding unlike_rule shape_meant
returns-then-shape-len c = search rules

pub returns-else-shape-len : goal.returns-else-shape-len
unfolding unlike_rule shape_meant
returns-else-shape-len c = search rules
