-- A row as the walks over formulas see it: which of its fields are terms, and which are lower rows. The promises of walks do not speak of it.
use Rattle.std.specs.Prelude.{ℕ, ◌+◌, List, [], ◌∷◌, get_or}
use Rattle.definition.specs.13-Formulas.{Formula, nodes}
use Rattle.definition.specs.14-Book.{Row, tree_in}

-- A leaf has terms alone; what is said or communicated has terms X and Z around the policy Y; a pair has two policies; a for-all has a body; a duty has an action X and a policy Y.
pub data Node : Type 0 where
  leaf : (x y z : ℕ) → Node
  said : (x y z : ℕ) → Node
  pair : (x y : ℕ) → Node
  body : (x : ℕ) → Node
  duty : (x y : ℕ) → Node
  no_node : Node

-- The kinds 0 to 10 in their order.
unfoldable pub node_table : Row → List Node
node_table r =
    leaf r.x r.y r.z
    ∷ leaf r.x r.y r.z
    ∷ said r.x r.y r.z
    ∷ pair r.x r.y
    ∷ body r.x
    ∷ pair r.x r.y
    ∷ duty r.x r.y
    ∷ duty r.x r.y
    ∷ said r.x r.y r.z
    ∷ leaf r.x r.y r.z
    ∷ leaf r.x r.y r.z
    ∷ []

unfoldable pub node_of : Row → Node
node_of r = get_or (node_table r) r.kind no_node

-- The nodes of a row's tree, by the row's node and the trees of the lower rows.
unfoldable pub nodes_of : List Formula → Node → ℕ
nodes_of l (leaf x y z) = 1
nodes_of l (said x y z) = nodes (tree_in l y) + 1
nodes_of l (pair x y) = nodes (tree_in l x) + nodes (tree_in l y) + 1
nodes_of l (body x) = nodes (tree_in l x) + 1
nodes_of l (duty x y) = nodes (tree_in l x) + nodes (tree_in l y) + 1
nodes_of l no_node = 1
