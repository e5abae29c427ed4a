-- The proof of the cycle of calls `action_instance` and `policy_instance`. Each one's measure is the row of the body; the common node of the two rows tells where both trees go on. The loop's invariant: the answer for the rows that it is at is that for the whole. Assumes nothing.
use native.Mathlib.Omega.{arith}
use Prim.Native.Nat.{ℕ}
use mathlib.Core.Path.{◌≡◌, refl, ◌∙◌}
use Rattle.definition.specs.13-Formulas.{is_policy, is_action}
use Rattle.definition.specs.14-Book.{book_rows}
use Rattle.formula_rows.specs.Meanings.{sort_meant}
use Rattle.formula_rows.specs.declared.nodes.Node as nodes
use Rattle.formula_walks.proofs.InstanceArms.{ahead_all, Arm, in_arm, calls_first, calls_last, differ_before, same_last, last_lower, ahead_last, leaf_same, body_lower, ahead_body, none_same, neither_same}
use Rattle.formula_walks.proofs.WalkLaws.{said_parts, pair_parts, duty_parts}
use Rattle.formula_walks.proofs.instances.+action_instance_policy_instance.Goals as goal
use Rattle.formula_walks.proofs.instances.+action_instance_policy_instance.Goals.{action_instance-After-common_node, policy_instance-After-common_node}

-- the arm that the walk of an action is in, once it has read both rows
action_arm : (t : ℕ) →
    (k : action_instance-After-common_node t) {m : nodes.Node} → k.common_node.result ≡ m →
    Arm is_action (sort_meant k.args.sort) k.args.term k.args.book.now t k.args.body k.args.row k.args.depth k.args.body k.args.row k.args.depth k.row_at-other.result m
action_arm t k e =
    in_arm k.decreases (ahead_all (k.requires.walk_row, k.requires.walk_row_2)) k.row_at.result k.row_at-other.result k.row_at.ensures k.row_at-other.ensures k.common_node.ensures e

pub action_instance-row_at-other-requires : goal.action_instance-row_at-other-requires
unfolding book_rows
action_instance-row_at-other-requires t c = let p = c.requires.walk_row_2.inside in omega arith

pub action_instance-row_at-requires : goal.action_instance-row_at-requires
unfolding book_rows
action_instance-row_at-requires t c = let p = c.requires.walk_row.inside in omega arith

pub action_instance-policy_instance-requires : goal.action_instance-policy_instance-requires
action_instance-policy_instance-requires t c = calls_last (action_arm t (goal.at.action_instance-policy_instance-requires t c).After-common_node c.in-Said.is) said_parts

pub action_instance-returns-then-terms_match : goal.action_instance-returns-then-terms_match
action_instance-returns-then-terms_match t c = same_last (action_arm t (goal.at.action_instance-returns-then-terms_match t c).After-common_node c.in-Said.is) said_parts c.terms_match-in-Said.ensures c.if-terms_match.true c.policy_instance.ensures

pub action_instance-returns-in-Leaf : goal.action_instance-returns-in-Leaf
action_instance-returns-in-Leaf t c = leaf_same (action_arm t (goal.at.action_instance-returns-in-Leaf t c).After-common_node c.in-Leaf.is) c.terms_match.ensures

pub action_instance-returns-else-terms_match : goal.action_instance-returns-else-terms_match
action_instance-returns-else-terms_match t c = c.if-terms_match.false ∙ differ_before (action_arm t (goal.at.action_instance-returns-else-terms_match t c).After-common_node c.in-Said.is) said_parts c.terms_match-in-Said.ensures c.if-terms_match.false

pub action_instance-returns-in_default : goal.action_instance-returns-in_default
action_instance-returns-in_default t c = neither_same _ (action_arm t (goal.at.action_instance-returns-in_default t c).After-common_node refl) c.in_default.not-Leaf c.in_default.not-Said

-- the arm that the walk of a policy is in, once it has read both rows
policy_arm : (t : ℕ) →
    (k : policy_instance-After-common_node t) {m : nodes.Node} → k.common_node.result ≡ m →
    Arm is_policy (sort_meant k.args.sort) k.args.term k.args.book.now t k.args.body k.args.row k.args.depth k.loop-x.from k.loop-x.to k.loop-x.under k.row_at-other.result m
policy_arm t k e =
    in_arm k.decreases k.loop-x.invariant k.row_at.result k.row_at-other.result k.row_at.ensures k.row_at-other.ensures k.common_node.ensures e

pub policy_instance-loop-x-init : goal.policy_instance-loop-x-init
policy_instance-loop-x-init t c = ahead_all (c.requires.walk_row, c.requires.walk_row_2)

pub policy_instance-row_at-other-requires : goal.policy_instance-row_at-other-requires
unfolding book_rows
policy_instance-row_at-other-requires t c = let p = c.loop-x.invariant.second.inside in omega arith

pub policy_instance-row_at-requires : goal.policy_instance-row_at-requires
unfolding book_rows
policy_instance-row_at-requires t c = let p = c.loop-x.invariant.first.inside in omega arith

pub policy_instance-returns-in-Leaf : goal.policy_instance-returns-in-Leaf
policy_instance-returns-in-Leaf t c = leaf_same (policy_arm t (goal.at.policy_instance-returns-in-Leaf t c).After-common_node c.in-Leaf.is) c.terms_match.ensures

pub policy_instance-returns-then-not-terms_match : goal.policy_instance-returns-then-not-terms_match
policy_instance-returns-then-not-terms_match t c = differ_before (policy_arm t (goal.at.policy_instance-returns-then-not-terms_match t c).After-common_node c.in-Said.is) said_parts c.terms_match-in-Said.ensures (c.if-not-terms_match.true)

pub policy_instance-loop-x-smaller-in-Said : goal.policy_instance-loop-x-smaller-in-Said
policy_instance-loop-x-smaller-in-Said t c = last_lower (policy_arm t (goal.at.policy_instance-loop-x-smaller-in-Said t c).After-common_node c.in-Said.is) said_parts

pub policy_instance-loop-x-preserved-in-Said : goal.policy_instance-loop-x-preserved-in-Said
policy_instance-loop-x-preserved-in-Said t c = ahead_last (policy_arm t (goal.at.policy_instance-loop-x-preserved-in-Said t c).After-common_node c.in-Said.is) said_parts c.terms_match-in-Said.ensures (c.if-not-terms_match.false)

pub policy_instance-policy_instance-requires : goal.policy_instance-policy_instance-requires
policy_instance-policy_instance-requires t c = calls_first (policy_arm t (goal.at.policy_instance-policy_instance-requires t c).After-common_node c.in-Pair.is) pair_parts

pub policy_instance-returns-then-not-policy_instance : goal.policy_instance-returns-then-not-policy_instance
policy_instance-returns-then-not-policy_instance t c = differ_before (policy_arm t (goal.at.policy_instance-returns-then-not-policy_instance t c).After-common_node c.in-Pair.is) pair_parts c.policy_instance.ensures (c.if-not-policy_instance.true)

pub policy_instance-loop-x-smaller-in-Pair : goal.policy_instance-loop-x-smaller-in-Pair
policy_instance-loop-x-smaller-in-Pair t c = last_lower (policy_arm t (goal.at.policy_instance-loop-x-smaller-in-Pair t c).After-common_node c.in-Pair.is) pair_parts

pub policy_instance-loop-x-preserved-in-Pair : goal.policy_instance-loop-x-preserved-in-Pair
policy_instance-loop-x-preserved-in-Pair t c = ahead_last (policy_arm t (goal.at.policy_instance-loop-x-preserved-in-Pair t c).After-common_node c.in-Pair.is) pair_parts c.policy_instance.ensures (c.if-not-policy_instance.false)

pub policy_instance-loop-x-smaller-in-Body : goal.policy_instance-loop-x-smaller-in-Body
policy_instance-loop-x-smaller-in-Body t c = body_lower (policy_arm t (goal.at.policy_instance-loop-x-smaller-in-Body t c).After-common_node c.in-Body.is)

pub policy_instance-loop-x-preserved-in-Body : goal.policy_instance-loop-x-preserved-in-Body
policy_instance-loop-x-preserved-in-Body t c = ahead_body (policy_arm t (goal.at.policy_instance-loop-x-preserved-in-Body t c).After-common_node c.in-Body.is)

pub policy_instance-action_instance-requires : goal.policy_instance-action_instance-requires
policy_instance-action_instance-requires t c = calls_first (policy_arm t (goal.at.policy_instance-action_instance-requires t c).After-common_node c.in-Duty.is) duty_parts

pub policy_instance-returns-then-not-action_instance : goal.policy_instance-returns-then-not-action_instance
policy_instance-returns-then-not-action_instance t c = differ_before (policy_arm t (goal.at.policy_instance-returns-then-not-action_instance t c).After-common_node c.in-Duty.is) duty_parts c.action_instance.ensures (c.if-not-action_instance.true)

pub policy_instance-loop-x-smaller : goal.policy_instance-loop-x-smaller
policy_instance-loop-x-smaller t c = last_lower (policy_arm t (goal.at.policy_instance-loop-x-smaller t c).After-common_node c.in-Duty.is) duty_parts

pub policy_instance-loop-x-preserved : goal.policy_instance-loop-x-preserved
policy_instance-loop-x-preserved t c = ahead_last (policy_arm t (goal.at.policy_instance-loop-x-preserved t c).After-common_node c.in-Duty.is) duty_parts c.action_instance.ensures (c.if-not-action_instance.false)

pub policy_instance-returns-in-None : goal.policy_instance-returns-in-None
policy_instance-returns-in-None t c = none_same (policy_arm t (goal.at.policy_instance-returns-in-None t c).After-common_node c.in-None.is)
