-- `line` meets its contract. Assumes nothing.
use mathlib.Core.Path.{refl}
use Rattle.step_shape.specs.RuleLines.{rule_shape}
use Rattle.step_shape.specs.Meanings.{shape_meant}
use Rattle.step_shape.proofs.rule_lines.line.Goals as goal

pub returns : goal.returns
unfolding shape_meant rule_shape
returns c = refl
