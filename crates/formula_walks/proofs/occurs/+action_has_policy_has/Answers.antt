-- The proof of the cycle of calls `action_has` and `policy_has`. Each one's measure is its row; a row's node tells where its tree goes on. The loop's invariant: what is found at the row it is at is what is found in the whole. Assumes nothing.
use native.Mathlib.Omega.{arith}
use Prim.Native.Nat.{ℕ}
use mathlib.Core.Path.{◌≡◌, sym, ◌∙◌}
use borrow.Author.Tests.{eqb-true, eqb-false}
use Rattle.definition.specs.13-Formulas.{is_policy, is_action}
use Rattle.definition.specs.14-Book.{book_rows}
use Rattle.formula_rows.specs.declared.nodes.Node.{Node}
use Rattle.formula_rows.specs.declared.nodes.Node.TheVariants as node
use Rattle.formula_rows.specs.Meanings.{sought_meant}
use Rattle.formula_walks.proofs.WalkLaws.{action_read, said_read, known_node, said_parts, pair_parts, duty_parts, last_lower, body_lower, some_node}
use Rattle.formula_walks.proofs.OccursLaws.{ahead_all, Arm, own_arm, here, calls_first, calls_last, found_before, found_last, ahead_last, leaf_found, ahead_body}
use Rattle.formula_walks.proofs.occurs.+action_has_policy_has.Goals as goal
use Rattle.formula_walks.proofs.occurs.+action_has_policy_has.Goals.{action_has-Then-is, policy_has-After-from}

pub action_has-row_at-own-requires : goal.action_has-row_at-own-requires
unfolding book_rows
action_has-row_at-own-requires t c = let p = c.requires.walk_row.inside in omega arith

-- the arm that the action is in, where its kind is that of a communication
action_arm : (t : ℕ) →
    (k : action_has-Then-is t) →
    Arm is_action (sought_meant k.args.w) k.args.book.now t k.args.row k.args.depth k.args.row k.args.depth (node.Said k.row_at-own.result.x k.row_at-own.result.y k.row_at-own.result.z)
action_arm t k = own_arm (k.decreases, (k.requires.walk_row, k.requires.present)) (said_read k.requires.walk_row k.row_at-own.result k.row_at-own.ensures (eqb-true _ _ (sym k.is.ensures ∙ k.if-is.true)))

pub action_has-policy_has-requires : goal.action_has-policy_has-requires
action_has-policy_has-requires t c = calls_last (action_arm t (goal.at.action_has-policy_has-requires t c).Then-is) said_parts

pub action_has-returns-then-terms_have : goal.action_has-returns-then-terms_have
action_has-returns-then-terms_have t c = c.if-terms_have.true ∙ found_before (action_arm t (goal.at.action_has-returns-then-terms_have t c).Then-is) said_parts c.terms_have.ensures c.if-terms_have.true

pub action_has-returns-else-terms_have : goal.action_has-returns-else-terms_have
action_has-returns-else-terms_have t c = found_last (action_arm t (goal.at.action_has-returns-else-terms_have t c).Then-is) said_parts c.terms_have.ensures c.if-terms_have.false c.policy_has.ensures

pub action_has-returns-else-is : goal.action_has-returns-else-is
action_has-returns-else-is t c = leaf_found (own_arm (c.decreases, (c.requires.walk_row, c.requires.present)) (action_read c.requires.walk_row c.row_at-own.result c.row_at-own.ensures c.requires.walk_row.kind (eqb-false _ _ (sym c.is.ensures ∙ c.if-is.false)))) c.terms_have-else-is.ensures

-- the arm that the walk is in, once it has read the node
policy_arm : (t : ℕ) →
    (k : policy_has-After-from t) {m : Node} → k.from.result ≡ m →
    Arm is_policy (sought_meant k.args.w) k.args.book.now t k.args.row k.args.depth k.loop-x.at k.loop-x.under m
policy_arm t k e =
    record { start = k.decreases; ahead = k.loop-x.invariant; present = k.requires.present; node = known_node k.args.book.now k.loop-x.at k.row_at.result k.row_at.ensures k.from.ensures e }

pub policy_has-loop-x-init : goal.policy_has-loop-x-init
policy_has-loop-x-init t c = ahead_all c.requires.walk_row

pub policy_has-row_at-requires : goal.policy_has-row_at-requires
unfolding book_rows
policy_has-row_at-requires t c = let p = c.loop-x.invariant.may.inside in omega arith

pub policy_has-returns-in-Leaf : goal.policy_has-returns-in-Leaf
policy_has-returns-in-Leaf t c = leaf_found (policy_arm t (goal.at.policy_has-returns-in-Leaf t c).After-from c.in-Leaf.is) c.terms_have.ensures

pub policy_has-returns-then-terms_have : goal.policy_has-returns-then-terms_have
policy_has-returns-then-terms_have t c = found_before (policy_arm t (goal.at.policy_has-returns-then-terms_have t c).After-from c.in-Said.is) said_parts c.terms_have-in-Said.ensures c.if-terms_have.true

pub policy_has-loop-x-smaller-in-Said : goal.policy_has-loop-x-smaller-in-Said
policy_has-loop-x-smaller-in-Said t c = last_lower (here (policy_arm t (goal.at.policy_has-loop-x-smaller-in-Said t c).After-from c.in-Said.is)) said_parts

pub policy_has-loop-x-preserved-in-Said : goal.policy_has-loop-x-preserved-in-Said
policy_has-loop-x-preserved-in-Said t c = ahead_last (policy_arm t (goal.at.policy_has-loop-x-preserved-in-Said t c).After-from c.in-Said.is) said_parts c.terms_have-in-Said.ensures c.if-terms_have.false

pub policy_has-policy_has-requires : goal.policy_has-policy_has-requires
policy_has-policy_has-requires t c = calls_first (policy_arm t (goal.at.policy_has-policy_has-requires t c).After-from c.in-Pair.is) pair_parts

pub policy_has-returns-then-policy_has : goal.policy_has-returns-then-policy_has
policy_has-returns-then-policy_has t c = found_before (policy_arm t (goal.at.policy_has-returns-then-policy_has t c).After-from c.in-Pair.is) pair_parts c.policy_has.ensures c.if-policy_has.true

pub policy_has-loop-x-smaller-in-Pair : goal.policy_has-loop-x-smaller-in-Pair
policy_has-loop-x-smaller-in-Pair t c = last_lower (here (policy_arm t (goal.at.policy_has-loop-x-smaller-in-Pair t c).After-from c.in-Pair.is)) pair_parts

pub policy_has-loop-x-preserved-in-Pair : goal.policy_has-loop-x-preserved-in-Pair
policy_has-loop-x-preserved-in-Pair t c = ahead_last (policy_arm t (goal.at.policy_has-loop-x-preserved-in-Pair t c).After-from c.in-Pair.is) pair_parts c.policy_has.ensures c.if-policy_has.false

pub policy_has-loop-x-smaller-in-Body : goal.policy_has-loop-x-smaller-in-Body
policy_has-loop-x-smaller-in-Body t c = body_lower (here (policy_arm t (goal.at.policy_has-loop-x-smaller-in-Body t c).After-from c.in-Body.is))

pub policy_has-loop-x-preserved-in-Body : goal.policy_has-loop-x-preserved-in-Body
policy_has-loop-x-preserved-in-Body t c = ahead_body (policy_arm t (goal.at.policy_has-loop-x-preserved-in-Body t c).After-from c.in-Body.is)

pub policy_has-action_has-requires : goal.policy_has-action_has-requires
policy_has-action_has-requires t c = calls_first (policy_arm t (goal.at.policy_has-action_has-requires t c).After-from c.in-Duty.is) duty_parts

pub policy_has-returns-then-action_has : goal.policy_has-returns-then-action_has
policy_has-returns-then-action_has t c = found_before (policy_arm t (goal.at.policy_has-returns-then-action_has t c).After-from c.in-Duty.is) duty_parts c.action_has.ensures c.if-action_has.true

pub policy_has-loop-x-smaller : goal.policy_has-loop-x-smaller
policy_has-loop-x-smaller t c = last_lower (here (policy_arm t (goal.at.policy_has-loop-x-smaller t c).After-from c.in-Duty.is)) duty_parts

pub policy_has-loop-x-preserved : goal.policy_has-loop-x-preserved
policy_has-loop-x-preserved t c = ahead_last (policy_arm t (goal.at.policy_has-loop-x-preserved t c).After-from c.in-Duty.is) duty_parts c.action_has.ensures c.if-action_has.false

pub policy_has-returns-in-None : goal.policy_has-returns-in-None
policy_has-returns-in-None t c = absurd (some_node (here (policy_arm t (goal.at.policy_has-returns-in-None t c).After-from c.in-None.is)))
