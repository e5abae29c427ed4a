-- `sort_and_body` meets its contract. Assumes nothing.
use Rattle.std.proofs.Common.{rules, ◌≡◌, true}
use Rattle.definition.specs.14-Book.{book, sort_and_body, policy_below, binds_own_sort}
use Rattle.formula_book.specs.Children.{is_child}
use Rattle.formula_rows.specs.Meanings.{row_meant, sort_meant, sought_meant}
use Rattle.formula_book.proofs.WalkedRows.{walk_below}
use Rattle.formula_walks.proofs.WalkLaws.{bound_present}
use Rattle.formula_book.proofs.fields.sort_and_body.Goals as goal

pub policy_has-requires-clause-walk_row : goal.policy_has-requires-clause-walk_row
unfolding sort_and_body policy_below binds_own_sort is_child row_meant sought_meant
policy_has-requires-clause-walk_row c =
    let below : policy_below (book c.args.book.now) c.args.k c.args.row.x ≡ true = search rules in
    walk_below _ _ c.requires _ below

pub policy_has-requires-clause-present : goal.policy_has-requires-clause-present
unfolding sort_and_body policy_below binds_own_sort is_child row_meant sought_meant
policy_has-requires-clause-present c = bound_present (sort_meant c.other_sort.result)

pub returns-then-row-eq-ABSENT-2 : goal.returns-then-row-eq-ABSENT-2
unfolding sort_and_body policy_below binds_own_sort is_child row_meant sought_meant
returns-then-row-eq-ABSENT-2 c = search rules

pub returns-else-row-eq-ABSENT-2 : goal.returns-else-row-eq-ABSENT-2
unfolding sort_and_body policy_below binds_own_sort is_child row_meant sought_meant
returns-else-row-eq-ABSENT-2 c = search rules
