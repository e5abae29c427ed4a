-- The two rows of an instance walk, seen together. The walks' promises do not speak of it.
use Rattle.std.specs.Prelude.{cond, ◌&&◌, eqb}
use Rattle.definition.specs.14-Book.{Row}
use Rattle.formula_rows.specs.Nodes.{Node, no_node, node_of}

-- The node of the first row, if the second has its kind and code.
unfoldable pub common_node : Row → Row → Node
common_node q r = cond (eqb q.kind r.kind && eqb q.code r.code) (node_of q) no_node
