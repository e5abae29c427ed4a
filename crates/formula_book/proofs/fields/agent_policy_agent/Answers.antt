-- `agent_policy_agent` meets its contract. Assumes nothing.
use Rattle.std.proofs.Common.{rules}
use Rattle.definition.specs.14-Book.{agent_policy_agent, policy_below, in_place}
use Rattle.formula_book.specs.Children.{is_child}
use Rattle.formula_rows.specs.Meanings.{row_meant, sort_meant}
use Rattle.formula_book.proofs.fields.agent_policy_agent.Goals as goal

pub returns-then-child_below : goal.returns-then-child_below
unfolding agent_policy_agent policy_below in_place is_child row_meant sort_meant
returns-then-child_below c = search rules

pub returns-else-child_below : goal.returns-else-child_below
unfolding agent_policy_agent policy_below in_place is_child row_meant sort_meant
returns-else-child_below c = search rules
