-- `node_size` meets its contract: each arm is one clause of the definition, over the sizes of the children. Assumes nothing.
use Rattle.std.proofs.Common.{rules}
use Rattle.formula_rows.specs.Nodes.{nodes_of}
use Rattle.formula_rows.specs.Meanings.{node_meant}
use Rattle.formula_book.proofs.admission.node_size.Goals as goal

pub size_of-requires : goal.size_of-requires
unfolding nodes_of node_meant
size_of-requires c = search rules

pub size_of-requires-in-Pair : goal.size_of-requires-in-Pair
unfolding nodes_of node_meant
size_of-requires-in-Pair c = search rules

pub size_of-requires-in-Body : goal.size_of-requires-in-Body
unfolding nodes_of node_meant
size_of-requires-in-Body c = search rules

pub size_of-requires-in-Pair-2 : goal.size_of-requires-in-Pair-2
unfolding nodes_of node_meant
size_of-requires-in-Pair-2 c = search rules

pub returns-in-Leaf : goal.returns-in-Leaf
unfolding nodes_of node_meant
returns-in-Leaf c = search rules

pub returns-in-Pair : goal.returns-in-Pair
unfolding nodes_of node_meant
returns-in-Pair c = search rules

pub returns-in-Said : goal.returns-in-Said
unfolding nodes_of node_meant
returns-in-Said c = search rules

pub returns-in-Body : goal.returns-in-Body
unfolding nodes_of node_meant
returns-in-Body c = search rules
