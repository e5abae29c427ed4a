-- `child_below` meets its contract: of a row that is not bad the kind tells policies and actions apart. Assumes nothing.
use mathlib.Core.Path.{ap, ◌∙◌}
use mathlib.Core.Bool.{not}
use native.Mathlib.Omega.{arith}
use Rattle.definition.specs.14-Book.{book_rows, policy_below, action_below}
use Rattle.formula_book.specs.Children.{is_child}
use Rattle.formula_book.proofs.WalkedRows.{policy_below_lem, action_below_lem}
use Rattle.formula_book.proofs.fields.child_below.Goals as goal

pub row_at-requires : goal.row_at-requires
unfolding book_rows
row_at-requires c = let p = c.requires.inside in omega arith

pub row_at-requires-then-lower-k-2 : goal.row_at-requires-then-lower-k-2
unfolding book_rows
row_at-requires-then-lower-k-2 c = let p = c.requires.inside in omega arith

pub returns-then-lower-k : goal.returns-then-lower-k
unfolding is_child policy_below
returns-then-lower-k c = rw c.in-Policy.is (c.is_policy.ensures ∙ policy_below_lem _ _ c.requires _ _ c.if-lower-k.true c.row_at.ensures)

pub returns-then-lower-k-2 : goal.returns-then-lower-k-2
unfolding is_child action_below
returns-then-lower-k-2 c = rw c.in-Action.is (ap not c.is_policy-then-lower-k-2.ensures ∙ action_below_lem _ _ c.requires _ _ c.if-lower-k-2.true c.row_at-then-lower-k-2.ensures)
