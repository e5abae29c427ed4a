-- What a walk learns of a row from its node: the children that it may go on to. By the eleven shapes of a row that is not bad.
-- Assumes nothing.
use Prim.Native.Nat.{ℕ, ◌+◌, ◌≤◌, ◌<◌}
use mathlib.Core.Path.{◌≡◌, refl, sym, ap, ◌∙◌}
use mathlib.Core.Bool.{Bool, true}
use mathlib.Core.Logic.{◌⊎◌, inl, inr, ⊎_elim}
use mathlib.Core.List.{List}
use native.Mathlib.Omega.{arith}
use Rattle.definition.proofs.Tests.{not_both}
use borrow.Author.Tests.{ne_eqb}
use Rattle.definition.specs.01-Words.{absent}
use Rattle.definition.specs.12-Terms.{Sort, class_of, is_parameter, is_free, is_bound}
use Rattle.definition.specs.13-Formulas.{Formula, is_policy, is_action, this_term, any_parameter, free_variable, bound_variable, is_sought}
use Rattle.definition.specs.14-Book.{Row, row_at, tree_in, book}
use Rattle.formula_rows.specs.Nodes.{Node, leaf, said, pair, body, duty, no_node, node_of, node_table}
use Rattle.formula_walks.specs.WalkRows.{WalkRow, Present}
use Rattle.formula_rows.specs.Meanings.{row_meant, node_meant}
use Rattle.formula_rows.specs.declared.rows.Row as rows
use Rattle.formula_rows.specs.declared.nodes.Node as nodes
use Rattle.formula_rows.specs.declared.nodes.Node.TheVariants as node
use Rattle.definition.proofs.Trees.{Below, Shape, predicate_row, owns_row, says_row, and_row, for_all_row, implies_row, each_use_row, once_row, communicates_row, creates_row, user_action_row, row_shape}

-- the children of a node
pub data Children (l : List Formula) (k : ℕ) : Node → Type 0 where
  of_leaf : {x y z : ℕ} → Children l k (leaf x y z)
  of_said : {x y z : ℕ} → Below is_policy l k y → Children l k (said x y z)
  of_pair : {x y : ℕ} → Below is_policy l k x → Below is_policy l k y → Children l k (pair x y)
  of_body : {x : ℕ} → Below is_policy l k x → Children l k (body x)
  of_duty : {x y : ℕ} → Below is_action l k x → Below is_policy l k y → Children l k (duty x y)

pub shape_children : {l : List Formula} {k : ℕ} {r : Row} → Shape l k r → Children l k (node_of r)
unfolding node_of node_table
shape_children (predicate_row e f t) = rw e of_leaf
shape_children (owns_row e f t) = rw e of_leaf
shape_children (says_row e f t) = rw e (of_said f.body)
shape_children (and_row e f t) = rw e (of_pair f.one f.two)
shape_children (for_all_row e f t) = rw e (of_body f.body)
shape_children (implies_row e f t) = rw e (of_pair f.one f.two)
shape_children (each_use_row e f t) = rw e (of_duty f.one f.two)
shape_children (once_row e f t) = rw e (of_duty f.one f.two)
shape_children (communicates_row e f t) = rw e (of_said f.body)
shape_children (creates_row e f t) = rw e of_leaf
shape_children (user_action_row e f g t) = rw e of_leaf

-- an action is a leaf, or it is communicated
abbrev pub InAction : Node → Type 0
InAction (leaf x y z) = Unit {0}
InAction (said x y z) = Unit {0}
InAction (pair x y) = ⊥
InAction (body x) = ⊥
InAction (duty x y) = ⊥
InAction no_node = ⊥

shape_action : {l : List Formula} {k : ℕ} {r : Row} → Shape l k r → is_action (tree_in l k) ≡ true → (node_of r ≡ leaf r.x r.y r.z) ⊎ (r.kind ≡ 8)
unfolding node_of node_table is_action
shape_action (predicate_row e f t) a = inl (rw e)
shape_action (owns_row e f t) a = inl (rw e)
shape_action (says_row e f t) a = absurd (not_both a (rw t))
shape_action (and_row e f t) a = absurd (not_both a (rw t))
shape_action (for_all_row e f t) a = absurd (not_both a (rw t))
shape_action (implies_row e f t) a = absurd (not_both a (rw t))
shape_action (each_use_row e f t) a = absurd (not_both a (rw t))
shape_action (once_row e f t) a = absurd (not_both a (rw t))
shape_action (communicates_row e f t) a = inr e
shape_action (creates_row e f t) a = inl (rw e)
shape_action (user_action_row e f g t) a = inl (rw e)

-- a leaf has the row's own fields
abbrev IsLeaf : Node → Type 0
IsLeaf (leaf x y z) = Unit {0}
IsLeaf (said x y z) = ⊥
IsLeaf (pair x y) = ⊥
IsLeaf (body x) = ⊥
IsLeaf (duty x y) = ⊥
IsLeaf no_node = ⊥

shape_leaf : {l : List Formula} {k : ℕ} {r : Row} → Shape l k r → IsLeaf (node_of r) → node_of r ≡ leaf r.x r.y r.z
unfolding node_of node_table
shape_leaf (predicate_row e f t) i = rw e
shape_leaf (owns_row e f t) i = rw e
shape_leaf (says_row e f t) i = absurd (rw e at i)
shape_leaf (and_row e f t) i = absurd (rw e at i)
shape_leaf (for_all_row e f t) i = absurd (rw e at i)
shape_leaf (implies_row e f t) i = absurd (rw e at i)
shape_leaf (each_use_row e f t) i = absurd (rw e at i)
shape_leaf (once_row e f t) i = absurd (rw e at i)
shape_leaf (communicates_row e f t) i = absurd (rw e at i)
shape_leaf (creates_row e f t) i = rw e
shape_leaf (user_action_row e f g t) i = rw e

action_said : (r : Row) → r.kind ≡ 8 → node_of r ≡ said r.x r.y r.z
unfolding node_of node_table
action_said r e = rw e

-- what may be looked for is not the absent term
pub bound_present : (σ : Sort) → Present (bound_variable σ)
unfolding is_sought class_of is_bound
bound_present σ d = refl

pub free_present : Present free_variable
unfolding is_sought class_of is_free
free_present d = refl

pub parameter_present : Present any_parameter
unfolding is_sought class_of is_parameter
parameter_present d = refl

pub term_present : (u : ℕ) → (u ≡ absent → ⊥) → Present (this_term u)
unfolding is_sought
term_present u h d = ne_eqb absent u (λ e. h (sym e))

-- The same of a row that a walk is at, whose node is known.
module _ {is : Formula → Bool} {s : List ℕ} {row depth : ℕ} (g : WalkRow is s row depth) where
  pub shape : Shape (book s) row (row_at s row)
  shape = row_shape s row (g.good row (omega arith)) g.inside

  pub children : {n : Node} → node_of (row_at s row) ≡ n → Children (book s) row n
  children e = rw e at (shape_children shape)

  pub in_action : {n : Node} → is_action (tree_in (book s) row) ≡ true → node_of (row_at s row) ≡ n → InAction n
  in_action a e = rw (← e) (⊎_elim (λ h. rw h tt) (λ h. rw (action_said (row_at s row) h) tt) (shape_action shape a))

  -- the node of a leaf that the code has read
  pub own_leaf : (q : rows.Row) (x y z : ℕ) → row_meant q ≡ row_at s row → node_of (row_at s row) ≡ node_meant (node.Leaf x y z) → node_of (row_at s row) ≡ node_meant (node.Leaf q.x q.y q.z)
  unfolding row_meant node_meant
  own_leaf q x y z e n = rw (← e) (shape_leaf (rw (← e) at shape) (rw (e, n) tt))

  -- the node of an action that the code has read, and that is no communication
  pub leaf_read : (q : rows.Row) (m : nodes.Node) → row_meant q ≡ row_at s row → node_meant m ≡ node_of (row_meant q) → is_action (tree_in (book s) row) ≡ true → ((x y z : ℕ) → m ≡ node.Said x y z → ⊥) → node_of (row_at s row) ≡ node_meant (node.Leaf q.x q.y q.z)
  unfolding node_meant
  leaf_read q (node.Leaf x y z) e n a other = own_leaf q x y z e (ap node_of (sym e) ∙ sym n)
  leaf_read q (node.Said x y z) e n a other = absurd (other x y z refl)
  leaf_read q (node.Pair x y) e n a other = absurd (in_action a (ap node_of (sym e) ∙ sym n))
  leaf_read q (node.Body x) e n a other = absurd (in_action a (ap node_of (sym e) ∙ sym n))
  leaf_read q (node.Duty x y) e n a other = absurd (in_action a (ap node_of (sym e) ∙ sym n))
  leaf_read q node.None e n a other = absurd (in_action a (ap node_of (sym e) ∙ sym n))

  -- the node of an action that the code has read, by its kind
  pub action_read : (q : rows.Row) → row_meant q ≡ row_at s row → is_action (tree_in (book s) row) ≡ true → (q.kind ≡ 8 → ⊥) → node_of (row_at s row) ≡ node_meant (node.Leaf q.x q.y q.z)
  unfolding row_meant node_meant
  action_read q e a other = rw (← e) (⊎_elim (λ h. h) (λ h. absurd (other h)) (shape_action (rw (← e) at shape) a))

  pub said_read : (q : rows.Row) → row_meant q ≡ row_at s row → q.kind ≡ 8 → node_of (row_at s row) ≡ node_meant (node.Said q.x q.y q.z)
  unfolding row_meant node_meant
  said_read q e kind = rw (← e) (action_said (row_meant q) kind)

  -- a walk may go on to a child
  pub go_on : {js : Formula → Bool} {n : ℕ} (d : ℕ) → d ≤ depth + 1 → Below js (book s) row n → WalkRow js s n d
  go_on d le b =
      record {
        good = λ j l. g.good j (omega (arith, b.lower));
        inside = omega (arith, b.lower, g.inside);
        kind = b.fit;
        deep = omega (arith, b.lower, g.deep);
      }

-- a row that is not bad has a node
abbrev pub IsNode : Node → Type 0
IsNode (leaf x y z) = Unit {0}
IsNode (said x y z) = Unit {0}
IsNode (pair x y) = Unit {0}
IsNode (body x) = Unit {0}
IsNode (duty x y) = Unit {0}
IsNode no_node = ⊥

pub is_node : {l : List Formula} {k : ℕ} {n : Node} → Children l k n → IsNode n
is_node of_leaf = tt
is_node (of_said b) = tt
is_node (of_pair a b) = tt
is_node (of_body b) = tt
is_node (of_duty a b) = tt

-- the definition's node of a row, from what the code has read
pub known_node : (s : List ℕ) (row : ℕ) (r : rows.Row) {n m : nodes.Node} → row_meant r ≡ row_at s row → node_meant n ≡ node_of (row_meant r) → n ≡ m → node_of (row_at s row) ≡ node_meant m
known_node s row r e q p = ap node_of (sym e) ∙ sym q ∙ ap node_meant p

-- A node that ends in a policy, as the code has it: what stands before the policy, two terms or a child of some kind, and the policy's row.
pub data Before : Type 0 where
  terms : (x z : ℕ) → Before
  child : (is : Formula → Bool) (x : ℕ) → Before

pub data Parts : nodes.Node → Before → ℕ → Type 0 where
  said_parts : {x y z : ℕ} → Parts (node.Said x y z) (terms x z) y
  pair_parts : {x y : ℕ} → Parts (node.Pair x y) (child is_policy x) y
  duty_parts : {x y : ℕ} → Parts (node.Duty x y) (child is_action x) y

-- its children lie below
abbrev pub BeforeBelow : List Formula → ℕ → Before → Type 0
BeforeBelow l k (terms x z) = Unit {0}
BeforeBelow l k (child is x) = Below is l k x

pub parts_below : {l : List Formula} {k : ℕ} {m : nodes.Node} {b : Before} {y : ℕ} → Parts m b y → Children l k (node_meant m) → BeforeBelow l k b × Below is_policy l k y
unfolding node_meant
parts_below said_parts (of_said b) = (tt, b)
parts_below pair_parts (of_pair a b) = (a, b)
parts_below duty_parts (of_duty a b) = (a, b)

pub body_below : {l : List Formula} {k x : ℕ} → Children l k (node_meant (node.Body x)) → Below is_policy l k x
unfolding node_meant
body_below (of_body b) = b

-- A walk that began at row t has come to `place`, under `under` for-alls, and has read its node.
pub record Here (is : Formula → Bool) (s : List ℕ) (t place under : ℕ) (m : nodes.Node) : Type 0 where
  pub lower : place ≤ t
  pub may : WalkRow is s place under
  pub node : node_of (row_at s place) ≡ node_meant m

-- it may go on to a child, whose row is lower
module _ {is : Formula → Bool} {s : List ℕ} {t place under : ℕ} {m : nodes.Node} (h : Here is s t place under m) where
  own : Children (book s) place (node_meant m)
  own = children h.may h.node

  goes_on : {js : Formula → Bool} {x : ℕ} (d : ℕ) → d ≤ under + 1 → Below js (book s) place x → (x < t) × WalkRow js s x d
  goes_on d le b = (omega (arith, b.lower, h.lower), go_on h.may d le b)

  pub to_first : {js : Formula → Bool} {x y : ℕ} → Parts m (child js x) y → (x < t) × WalkRow js s x under
  to_first p = goes_on under (omega arith) (parts_below p own).0

  pub to_last : {b : Before} {y : ℕ} → Parts m b y → (y < t) × WalkRow is_policy s y under
  to_last p = goes_on under (omega arith) (parts_below p own).1

  pub first_lower : {js : Formula → Bool} {x y : ℕ} → Parts m (child js x) y → x < place
  first_lower p = (parts_below p own).0.lower

  pub last_lower : {b : Before} {y : ℕ} → Parts m b y → y < place
  last_lower p = (parts_below p own).1.lower

module _ {is : Formula → Bool} {s : List ℕ} {t place under : ℕ} where
  pub to_body : {x : ℕ} → Here is s t place under (node.Body x) → (d : ℕ) → d ≤ under + 1 → (x < t) × WalkRow is_policy s x d
  to_body h d le = goes_on h d le (body_below (own h))

  pub body_lower : {x : ℕ} → Here is s t place under (node.Body x) → x < place
  body_lower h = (body_below (own h)).lower

  pub some_node : Here is s t place under node.None → ⊥
  unfolding node_meant
  some_node h = is_node (own h)
