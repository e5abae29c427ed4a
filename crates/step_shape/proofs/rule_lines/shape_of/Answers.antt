-- `shape_of` meets its contract: behind the table stands the line that no step can use. Assumes nothing.
use mathlib.Core.Path.{sym, ap, ◌∙◌}
use lib.ListN.{get_or-eq_default}
use Rattle.definition.specs.21-Rules.{rule, rules, rule_at}
use Rattle.step_shape.specs.RuleLines.{rule_shape, shape_of}
use Rattle.step_shape.specs.Meanings.{names_meant, effect_meant}
use Prim.Native.Nat.{◌≤◌}
use native.Mathlib.Omega.{arith}
use Rattle.step_shape.proofs.rule_lines.shape_of.Goals as goal

pub returns-in-Err : goal.returns-in-Err
unfolding shape_of rule_shape rule_at rules rule names_meant effect_meant
returns-in-Err c =
    let beyond : 16 ≤ c.args.rule = omega (arith, c.in-Err.ensures.0) in
    c.line.ensures ∙ sym (ap shape_of (get_or-eq_default rules _ beyond))
