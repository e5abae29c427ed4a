-- Each walk's measure is its row. What the loop keeps: what is found at the row it is at is what is found in the whole.
use Rattle.definition.specs.13-Formulas.{is_policy}
use Rattle.formula_rows.specs.Meanings.{sought_meant}
use Rattle.formula_walks.proofs.OccursLaws.{Ahead}
use Rattle.formula_walks.proofs.occurs.+action_has_policy_has.Given as goal

abbrev pub decreases-action_has : goal.decreases-action_has
decreases-action_has l = l.row

abbrev pub decreases-policy_has : goal.decreases-policy_has
decreases-policy_has l = l.row

abbrev pub invariant-policy_has-loop-x : goal.invariant-policy_has-loop-x
invariant-policy_has-loop-x l = Ahead is_policy (sought_meant l.w) l.book l.row l.depth l.at l.under

abbrev pub decreases-policy_has-loop-x : goal.decreases-policy_has-loop-x
decreases-policy_has-loop-x l = l.at
