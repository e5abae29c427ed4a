-- A row whose kind is none of the eleven has no node. Assumes nothing.
use Prim.Native.Nat.{◌≤◌}
use mathlib.Core.Path.{◌≡◌}
use lib.ListN.{get_or-eq_default}
use Rattle.definition.specs.14-Book.{Row}
use Rattle.formula_rows.specs.Nodes.{no_node, node_of, node_table}

pub node_past : (r : Row) → 11 ≤ r.kind → node_of r ≡ no_node
unfolding node_of node_table
node_past r far = get_or-eq_default (node_table r) no_node far
