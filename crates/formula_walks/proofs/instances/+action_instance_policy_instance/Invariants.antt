-- Each walk's measure is its row of the body. What the loop keeps: whether the two rows it is at fit one another is whether the whole fits.
use Rattle.definition.specs.13-Formulas.{is_policy}
use Rattle.formula_rows.specs.Meanings.{sort_meant}
use Rattle.formula_walks.proofs.InstanceArms.{Ahead}
use Rattle.formula_walks.proofs.instances.+action_instance_policy_instance.Given as goal

abbrev pub decreases-action_instance : goal.decreases-action_instance
decreases-action_instance l = l.body

abbrev pub decreases-policy_instance : goal.decreases-policy_instance
decreases-policy_instance l = l.body

abbrev pub invariant-policy_instance-loop-x : goal.invariant-policy_instance-loop-x
invariant-policy_instance-loop-x l = Ahead is_policy (sort_meant l.sort) l.term l.book l.body l.row l.depth l.from l.to l.under

abbrev pub decreases-policy_instance-loop-x : goal.decreases-policy_instance-loop-x
decreases-policy_instance-loop-x l = l.from
