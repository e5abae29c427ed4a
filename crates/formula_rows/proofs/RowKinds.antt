-- What the kind of a row that is not bad says of its tree, and how many nodes it has. By the eleven shapes. Assumes nothing.
use Prim.Native.Nat.{ℕ}
use mathlib.Core.Path.{◌≡◌}
use mathlib.Core.List.{List}
use lib.Dec.{eqb, ltb, leb}
use Rattle.definition.proofs.Trees.{Shape, predicate_row, owns_row, says_row, and_row, for_all_row, implies_row, each_use_row, once_row, communicates_row, creates_row, user_action_row}
use Rattle.definition.specs.13-Formulas.{Formula, is_policy, is_action, is_predicate, nodes}
use Rattle.definition.specs.14-Book.{Row, tree_in}
use Rattle.formula_rows.specs.Nodes.{node_of, node_table, nodes_of}

pub shape_policy : {l : List Formula} {k : ℕ} {r : Row} → Shape l k r → is_policy (tree_in l k) ≡ ltb r.kind 8
unfolding is_policy
shape_policy (predicate_row e f t) = rw (t, e)
shape_policy (owns_row e f t) = rw (t, e)
shape_policy (says_row e f t) = rw (t, e)
shape_policy (and_row e f t) = rw (t, e)
shape_policy (for_all_row e f t) = rw (t, e)
shape_policy (implies_row e f t) = rw (t, e)
shape_policy (each_use_row e f t) = rw (t, e)
shape_policy (once_row e f t) = rw (t, e)
shape_policy (communicates_row e f t) = rw (t, e)
shape_policy (creates_row e f t) = rw (t, e)
shape_policy (user_action_row e f g t) = rw (t, e)

pub shape_action : {l : List Formula} {k : ℕ} {r : Row} → Shape l k r → is_action (tree_in l k) ≡ leb 8 r.kind
unfolding is_action
shape_action (predicate_row e f t) = rw (t, e)
shape_action (owns_row e f t) = rw (t, e)
shape_action (says_row e f t) = rw (t, e)
shape_action (and_row e f t) = rw (t, e)
shape_action (for_all_row e f t) = rw (t, e)
shape_action (implies_row e f t) = rw (t, e)
shape_action (each_use_row e f t) = rw (t, e)
shape_action (once_row e f t) = rw (t, e)
shape_action (communicates_row e f t) = rw (t, e)
shape_action (creates_row e f t) = rw (t, e)
shape_action (user_action_row e f g t) = rw (t, e)

pub shape_predicate : {l : List Formula} {k : ℕ} {r : Row} → Shape l k r → is_predicate (tree_in l k) ≡ eqb r.kind 0
unfolding is_predicate
shape_predicate (predicate_row e f t) = rw (t, e)
shape_predicate (owns_row e f t) = rw (t, e)
shape_predicate (says_row e f t) = rw (t, e)
shape_predicate (and_row e f t) = rw (t, e)
shape_predicate (for_all_row e f t) = rw (t, e)
shape_predicate (implies_row e f t) = rw (t, e)
shape_predicate (each_use_row e f t) = rw (t, e)
shape_predicate (once_row e f t) = rw (t, e)
shape_predicate (communicates_row e f t) = rw (t, e)
shape_predicate (creates_row e f t) = rw (t, e)
shape_predicate (user_action_row e f g t) = rw (t, e)

pub shape_nodes : {l : List Formula} {k : ℕ} {r : Row} → Shape l k r → nodes (tree_in l k) ≡ nodes_of l (node_of r)
unfolding nodes nodes_of node_of node_table
shape_nodes (predicate_row e f t) = rw (t, e)
shape_nodes (owns_row e f t) = rw (t, e)
shape_nodes (says_row e f t) = rw (t, e)
shape_nodes (and_row e f t) = rw (t, e)
shape_nodes (for_all_row e f t) = rw (t, e)
shape_nodes (implies_row e f t) = rw (t, e)
shape_nodes (each_use_row e f t) = rw (t, e)
shape_nodes (once_row e f t) = rw (t, e)
shape_nodes (communicates_row e f t) = rw (t, e)
shape_nodes (creates_row e f t) = rw (t, e)
shape_nodes (user_action_row e f g t) = rw (t, e)
