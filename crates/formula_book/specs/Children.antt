-- What a child of a row has to be.
use Rattle.std.specs.Prelude.{Bool}
use Rattle.definition.specs.13-Formulas.{Formula, is_policy, is_action}
use Rattle.formula_book.specs.declared.fields.Child.{Child}
use Rattle.formula_book.specs.declared.fields.Child.TheVariants.{Policy, Action}

unfoldable pub is_child : Child → Formula → Bool
is_child Policy = is_policy
is_child Action = is_action
