-- `action_and_policy` meets its contract. Assumes nothing.
use Rattle.std.proofs.Common.{rules}
use Rattle.definition.specs.14-Book.{action_and_policy, action_below, policy_below}
use Rattle.formula_book.specs.Children.{is_child}
use Rattle.formula_rows.specs.Meanings.{row_meant}
use Rattle.formula_book.proofs.fields.action_and_policy.Goals as goal

pub returns-then-child_below-2 : goal.returns-then-child_below-2
unfolding action_and_policy action_below policy_below is_child row_meant
returns-then-child_below-2 c = search rules

pub returns-else-child_below-2 : goal.returns-else-child_below-2
unfolding action_and_policy action_below policy_below is_child row_meant
returns-else-child_below-2 c = search rules
