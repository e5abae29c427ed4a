-- `is_body_with` meets its contract: no action is a policy with a term put in. Assumes nothing.
use mathlib.Core.Path.{sym, ◌∙◌}
use borrow.Author.Tests.{ltb-true, ltb-false}
use Rattle.formula_book.proofs.Instances.{no_instance_lem}
use Rattle.formula_book.proofs.WalkedRows.{policy_here, good_inside}
use Rattle.formula_book.proofs.answers.is_body_with.Goals as goal

pub row_at-requires : goal.row_at-requires
row_at-requires c = good_inside c.requires.good_row_2

pub policy_instance-requires-clause-walk_row_2 : goal.policy_instance-requires-clause-walk_row_2
policy_instance-requires-clause-walk_row_2 c = policy_here _ _ c.requires.good_row_2 c.row_at.result c.row_at.ensures (ltb-true _ _ (sym c.is_policy.ensures ∙ c.if-is_policy.true))

pub returns-else-is_policy : goal.returns-else-is_policy
returns-else-is_policy c =
    c.if-is_policy.false ∙ no_instance_lem _ _ c.requires.good_row_2 c.row_at.result c.row_at.ensures (ltb-false _ _ (sym c.is_policy.ensures ∙ c.if-is_policy.false)) _ _ _ c.requires.good_row.1
