-- `formula_has` meets its contract: a row of a kind below 8 is a policy, any other an action. Assumes nothing.
use mathlib.Core.Path.{sym, ◌∙◌}
use borrow.Author.Tests.{ltb-true, ltb-false}
use Rattle.formula_book.proofs.WalkedRows.{policy_here, action_here, good_inside}
use Rattle.formula_book.proofs.answers.formula_has.Goals as goal

pub row_at-requires : goal.row_at-requires
row_at-requires c = good_inside c.requires.good_row

pub policy_has-requires-clause-walk_row : goal.policy_has-requires-clause-walk_row
policy_has-requires-clause-walk_row c = policy_here _ _ c.requires.good_row c.row_at.result c.row_at.ensures (ltb-true _ _ (sym c.is_policy.ensures ∙ c.if-is_policy.true))

pub action_has-requires-clause-walk_row : goal.action_has-requires-clause-walk_row
action_has-requires-clause-walk_row c = action_here _ _ c.requires.good_row c.row_at.result c.row_at.ensures (ltb-false _ _ (sym c.is_policy.ensures ∙ c.if-is_policy.false))
