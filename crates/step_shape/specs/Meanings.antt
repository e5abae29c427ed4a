-- What the code's types stand for: each case as the definition's.
use Rattle.definition.specs.21-Rules as rules
use Rattle.step_shape.specs.RuleLines as lines
use Rattle.step_shape.specs.declared.rule_lines.Names.{Names}
use Rattle.step_shape.specs.declared.rule_lines.Names.TheVariants as names
use Rattle.step_shape.specs.declared.rule_lines.Effect.{Effect}
use Rattle.step_shape.specs.declared.rule_lines.Effect.TheVariants as effect
use Rattle.step_shape.specs.declared.rule_lines.Shape.{Shape}

unfoldable pub names_meant : Names → rules.Names
names_meant names.Nothing = rules.nothing
names_meant names.Label = rules.a_label
names_meant names.Condition = rules.a_condition
names_meant names.Row = rules.a_row
names_meant names.Obligation = rules.an_obligation
names_meant names.Term = rules.a_term

unfoldable pub effect_meant : Effect → rules.Effect
effect_meant effect.Keeps = rules.keeps
effect_meant effect.Adds = rules.adds
effect_meant effect.Closes = rules.closes

unfoldable pub shape_meant : Shape → lines.RuleShape
shape_meant s = record { names = names_meant s.names; least = s.least; most = s.most; effect = effect_meant s.effect }
