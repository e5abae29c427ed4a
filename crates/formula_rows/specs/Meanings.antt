-- What the code's types stand for: each case as the definition's.
use Rattle.definition.specs.12-Terms as definition
use Rattle.definition.specs.13-Formulas as formulas
use Rattle.definition.specs.14-Book as book
use Rattle.formula_rows.specs.Nodes as walks
use Rattle.formula_rows.specs.declared.rows.Row.{Row}
use Rattle.formula_rows.specs.declared.nodes.Node.{Node}
use Rattle.formula_rows.specs.declared.nodes.Node.TheVariants as node
use Rattle.formula_rows.specs.declared.sought.Sought.{Sought}
use Rattle.formula_rows.specs.declared.sought.Sought.TheVariants as sought
use Rattle.formula_rows.specs.declared.terms.Sort.{Sort}
use Rattle.formula_rows.specs.declared.terms.Sort.TheVariants.{Agents, Data}
use Rattle.formula_rows.specs.declared.terms.Term.{Term}
use Rattle.formula_rows.specs.declared.terms.Term.TheVariants.{Object, Parameter, Variable, Absent, Other}

unfoldable pub sort_meant : Sort → definition.Sort
sort_meant Agents = definition.agents
sort_meant Data = definition.data_objects

unfoldable pub term_meant : Term → definition.Class
term_meant (Object s) = definition.object (sort_meant s)
term_meant (Parameter s) = definition.parameter (sort_meant s)
term_meant (Variable s n) = definition.variable (sort_meant s) n
term_meant Absent = definition.absent_term
term_meant Other = definition.no_term

unfoldable pub sought_meant : Sought → formulas.Sought
sought_meant (sought.Term u) = formulas.this_term u
sought_meant sought.Parameter = formulas.any_parameter
sought_meant sought.FreeVariable = formulas.free_variable
sought_meant (sought.Bound s) = formulas.bound_variable (sort_meant s)

unfoldable pub row_meant : Row → book.Row
row_meant r = record { kind = r.kind; code = r.code; x = r.x; y = r.y; z = r.z }

unfoldable pub node_meant : Node → walks.Node
node_meant (node.Leaf x y z) = walks.leaf x y z
node_meant (node.Said x y z) = walks.said x y z
node_meant (node.Pair x y) = walks.pair x y
node_meant (node.Body x) = walks.body x
node_meant (node.Duty x y) = walks.duty x y
node_meant node.None = walks.no_node
