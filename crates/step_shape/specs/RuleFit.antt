-- Check 12, what a rule says of the premises and the argument.
use Rattle.std.specs.Prelude.{ℕ, Bool, not, ◌&&◌, ◌||◌, eqb, ltb}
use Rattle.definition.specs.01-Words.{absent}
use Rattle.definition.specs.22-Steps.{must_be_absent}
use Rattle.step_shape.specs.RuleLines.{RuleShape}

unfoldable pub unlike_rule : RuleShape → (len argument : ℕ) → Bool
unlike_rule r n a = ltb n r.least || ltb r.most n || (must_be_absent r.names && not (eqb a absent))
