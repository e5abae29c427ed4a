-- A rule's line of the table, as the code has it.
use Rattle.std.specs.Prelude.{ℕ}
use Rattle.definition.specs.21-Rules.{Rule, Names, Effect}

-- A rule's row of the table, without its test.
pub record RuleShape : Type 0 where
  pub names : Names
  pub least : ℕ
  pub most : ℕ
  pub effect : Effect

unfoldable pub rule_shape : Names → (least most : ℕ) → Effect → RuleShape
rule_shape n a b e = record { names = n; least = a; most = b; effect = e }

unfoldable pub shape_of : Rule → RuleShape
shape_of r = rule_shape r.names r.least r.most r.effect
