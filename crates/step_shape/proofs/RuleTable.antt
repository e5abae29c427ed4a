-- What the proof of `shape_of` unfolds: the table of the rules, as the definition and the code have it. Assumes nothing.
use Rattle.definition.specs.21-Rules.{rule, rules, rule_at}
use Rattle.step_shape.specs.RuleLines.{rule_shape, shape_of}
use Rattle.step_shape.specs.Meanings.{names_meant, effect_meant}

unfoldable pub rule_table : Unit {0}
unfolding shape_of rule_shape rule_at rules rule names_meant effect_meant
rule_table = tt
