-- The arms of an instance walk, by the common node of the two rows that it is at: the children that it may go on to, and what its answer there says of the whole. Assumes nothing.
use Prim.Native.Nat.{ℕ, ◌+◌, ◌≤◌, ◌<◌}
use mathlib.Core.Path.{◌≡◌, refl, sym, ap, ◌∙◌}
use mathlib.Core.Bool.{Bool, true, false, ◌&&◌}
use mathlib.Core.List.{List, [], ◌∷◌}
use Rattle.std.specs.List.{list_all}
use native.Mathlib.Omega.{arith}
use Rattle.definition.proofs.Tests.{both_first, both_second}
use Rattle.definition.proofs.Trees.{Below}
use Rattle.definition.specs.12-Terms.{Sort}
use Rattle.definition.specs.13-Formulas.{Formula, same, put, is_policy, is_action}
use Rattle.definition.specs.14-Book.{row_at, tree_in, book}
use Rattle.formula_rows.specs.Nodes.{node_of}
use Rattle.formula_rows.specs.Meanings.{row_meant, node_meant}
use Rattle.formula_rows.specs.declared.rows.Row as rows
use Rattle.formula_rows.specs.declared.nodes.Node as nodes
use Rattle.formula_rows.specs.declared.nodes.Node.TheVariants as node
use Rattle.formula_walks.specs.WalkRows.{WalkRow}
use Rattle.formula_walks.specs.CommonNode.{common_node}
use Rattle.formula_walks.proofs.WalkLaws.{shape, Children, children, InAction, IsNode, in_action, go_on, Before, terms, child, Parts, said_parts, pair_parts, duty_parts, BeforeBelow, parts_below, body_below}
use Rattle.formula_walks.proofs.InstanceLaws.{puts, like, like_node, inst_node, shape_instance, common}

-- A row of the same kind as one with these parts has the same parts, by its own fields.
like_before : rows.Row → Before → Before
like_before r (terms x z) = terms r.x r.z
like_before r (child is x) = child is r.x

parts_like : {l : List Formula} {k : ℕ} (r : rows.Row) {m : nodes.Node} {b : Before} {y : ℕ} → Parts m b y → Children l k (like (row_meant r) (node_meant m)) → BeforeBelow l k (like_before r b) × Below is_policy l k r.y
unfolding like like_before row_meant node_meant
parts_like r said_parts c = parts_below (said_parts {x = r.x} {z = r.z}) c
parts_like r pair_parts c = parts_below (pair_parts {x = r.x}) c
parts_like r duty_parts c = parts_below (duty_parts {x = r.x}) c

parts_node : {m : nodes.Node} {b : Before} {y : ℕ} → Parts m b y → IsNode (node_meant m)
unfolding node_meant
parts_node said_parts = tt
parts_node pair_parts = tt
parts_node duty_parts = tt

-- whether the row agrees before the last policy, and in it
abbrev pub same_before : Sort → ℕ → ℕ → List Formula → rows.Row → Before → Bool
same_before σ u d l r (terms x z) = list_all (puts σ u d) ((r.x, x) ∷ (r.z, z) ∷ [])
same_before σ u d l r (child is x) = same (tree_in l r.x) (put σ u d (tree_in l x))

parts_same : (σ : Sort) (u d : ℕ) (l : List Formula) (r : rows.Row) {m : nodes.Node} {b : Before} {y : ℕ} → Parts m b y → inst_node σ u d l (row_meant r) (node_meant m) ≡ same_before σ u d l r b && same (tree_in l r.y) (put σ u d (tree_in l y))
unfolding inst_node row_meant node_meant
parts_same σ u d l r said_parts = refl
parts_same σ u d l r pair_parts = refl
parts_same σ u d l r duty_parts = refl

-- Is row `to` the row `from`, under d for-alls, with the term put in?
abbrev pub put_in : Sort → (u d : ℕ) → List ℕ → (from to : ℕ) → Bool
put_in σ u d s from to = same (tree_in (book s) to) (put σ u d (tree_in (book s) from))

-- A walk that began at `body` and `row`, under `depth` for-alls, and has come to `from` and `to`, under `under`: its answer there is that of the whole.
pub record Ahead (is : Formula → Bool) (σ : Sort) (u : ℕ) (s : List ℕ) (body row depth from to under : ℕ) : Type 0 where
  pub lower : from ≤ body
  pub first : WalkRow is s from under
  pub second : WalkRow is s to under
  pub whole : put_in σ u under s from to ≡ put_in σ u depth s body row

pub ahead_all : {is : Formula → Bool} {σ : Sort} {u : ℕ} {s : List ℕ} {body row depth : ℕ} → WalkRow is s body depth × WalkRow is s row depth → Ahead is σ u s body row depth body row depth
ahead_all g = record { lower = omega arith; first = g.0; second = g.1; whole = refl }

-- An arm of the walk: the second row, as it was read, and the common node of both.
pub record Arm (is : Formula → Bool) (σ : Sort) (u : ℕ) (s : List ℕ) (t body row depth from to under : ℕ) (r : rows.Row) (m : nodes.Node) : Type 0 where
  pub start : body ≡ t
  pub ahead : Ahead is σ u s body row depth from to under
  pub other : row_meant r ≡ row_at s to
  pub node : common_node (row_at s from) (row_at s to) ≡ node_meant m

-- An arm, from what the code has read.
pub in_arm :
    {is : Formula → Bool} {σ : Sort} {u : ℕ} {s : List ℕ} {t body row depth from to under : ℕ} → body ≡ t → Ahead is σ u s body row depth from to under →
    (q r : rows.Row) {n m : nodes.Node} → row_meant q ≡ row_at s from → row_meant r ≡ row_at s to →
    node_meant n ≡ common_node (row_meant q) (row_meant r) → n ≡ m → Arm is σ u s t body row depth from to under r m
in_arm i a q r e f c p = record { start = i; ahead = a; other = f; node = rw (← e, ← f) (sym c ∙ ap node_meant p) }

module _ {is : Formula → Bool} {σ : Sort} {u : ℕ} {s : List ℕ} {t body row depth from to under : ℕ} {r : rows.Row} {m : nodes.Node} (a : Arm is σ u s t body row depth from to under r m) where
  answer : inst_node σ u under (book s) (row_meant r) (node_meant m) ≡ put_in σ u depth s body row
  answer =
      rw (a.other, ← a.node) (sym (shape_instance σ u under (shape a.ahead.first) (shape a.ahead.second)) ∙ a.ahead.whole)

  parts_answer : {b : Before} {y : ℕ} → Parts m b y → same_before σ u under (book s) r b && put_in σ u under s y r.y ≡ put_in σ u depth s body row
  parts_answer p = sym (parts_same σ u under (book s) r p) ∙ answer

  first_node : IsNode (node_meant m) → (node_of (row_at s from) ≡ node_meant m) × ((row_at s from).kind ≡ (row_at s to).kind)
  first_node i = common (row_at s from) (row_at s to) a.node i

  first_children : IsNode (node_meant m) → Children (book s) from (node_meant m)
  first_children i = children a.ahead.first (first_node i).0

  second_children : IsNode (node_meant m) → Children (book s) to (like (row_meant r) (node_meant m))
  second_children i =
      let c = first_node i in
      rw a.other (children a.ahead.second (like_node (row_at s from) (row_at s to) c.1 ∙ ap (like (row_at s to)) c.0))

  -- the walk may go on to both children, and the first row falls
  both : {js : Formula → Bool} {x y : ℕ} (d : ℕ) → d ≤ under + 1 → Below js (book s) from x → Below js (book s) to y → (x < t) × (WalkRow js s x d × WalkRow js s y d)
  both d le b c = (omega (arith, b.lower, a.ahead.lower, a.start), (go_on a.ahead.first d le b, go_on a.ahead.second d le c))

  pub calls_first : {js : Formula → Bool} {x y : ℕ} → Parts m (child js x) y → (x < t) × (WalkRow js s x under × WalkRow js s r.x under)
  unfolding like_before
  calls_first p = let i = parts_node p in both under (omega arith) (parts_below p (first_children i)).0 (parts_like r p (second_children i)).0

  pub calls_last : {b : Before} {y : ℕ} → Parts m b y → (y < t) × (WalkRow is_policy s y under × WalkRow is_policy s r.y under)
  calls_last p = let i = parts_node p in both under (omega arith) (parts_below p (first_children i)).1 (parts_like r p (second_children i)).1

  -- the answer, where the rows differ before the policy, and where they do not
  pub differ_before : {b : Before} {y : ℕ} {q : Bool} → Parts m b y → q ≡ same_before σ u under (book s) r b → q ≡ false → false ≡ put_in σ u depth s body row
  differ_before p e f = both_first _ e f ∙ parts_answer p

  pub same_last : {b : Before} {y : ℕ} {q o : Bool} → Parts m b y → q ≡ same_before σ u under (book s) r b → q ≡ true → o ≡ put_in σ u under s y r.y → o ≡ put_in σ u depth s body row
  same_last p e t q = both_second e t q ∙ parts_answer p

  -- the loop goes on with both policies
  pub last_lower : {b : Before} {y : ℕ} → Parts m b y → y < from
  last_lower p = (parts_below p (first_children (parts_node p))).1.lower

  goes_on : {x y d : ℕ} → x < from → (x < t) × (WalkRow is_policy s x d × WalkRow is_policy s y d) → put_in σ u d s x y ≡ put_in σ u depth s body row → Ahead is_policy σ u s body row depth x y d
  goes_on l b e = record { lower = omega (arith, l, a.ahead.lower); first = b.1.0; second = b.1.1; whole = e }

  pub ahead_last : {b : Before} {y : ℕ} {q : Bool} → Parts m b y → q ≡ same_before σ u under (book s) r b → q ≡ true → Ahead is_policy σ u s body row depth y r.y under
  ahead_last p e t = goes_on (last_lower p) (calls_last p) (same_last p e t refl)

-- a leaf, a for-all, and no common node
module _ {is : Formula → Bool} {σ : Sort} {u : ℕ} {s : List ℕ} {t body row depth from to under : ℕ} {r : rows.Row} where
  pub leaf_same :
      {x y z : ℕ} {q : Bool} → Arm is σ u s t body row depth from to under r (node.Leaf x y z) →
      q ≡ list_all (puts σ u under) ((r.x, x) ∷ (r.z, z) ∷ (r.y, y) ∷ []) → q ≡ put_in σ u depth s body row
  unfolding inst_node node_meant row_meant
  leaf_same a e = e ∙ answer a

  pub body_lower : {x : ℕ} → Arm is σ u s t body row depth from to under r (node.Body x) → x < from
  unfolding node_meant
  body_lower a = (body_below (first_children a tt)).lower

  pub ahead_body : {x : ℕ} → Arm is σ u s t body row depth from to under r (node.Body x) → Ahead is_policy σ u s body row depth x r.x (under + 1)
  unfolding like inst_node node_meant row_meant
  ahead_body a = goes_on a (body_lower a) (both a (under + 1) (omega arith) (body_below (first_children a tt)) (body_below (second_children a tt))) (answer a)

  pub none_same : Arm is σ u s t body row depth from to under r node.None → false ≡ put_in σ u depth s body row
  unfolding inst_node node_meant
  none_same a = answer a

-- An action has no other node than a leaf or what is communicated.
arm_of_action : {σ : Sort} {u : ℕ} {s : List ℕ} {t body row depth from to under : ℕ} {r : rows.Row} {m : nodes.Node} → Arm is_action σ u s t body row depth from to under r m → IsNode (node_meant m) → InAction (node_meant m)
arm_of_action a i = in_action a.ahead.first a.ahead.first.kind (first_node a i).0

-- So where it is neither, there is no common node.
module _ {σ : Sort} {u : ℕ} {s : List ℕ} {t body row depth from to under : ℕ} {r : rows.Row} where
  pub neither_same : (m : nodes.Node) → Arm is_action σ u s t body row depth from to under r m → ((x y z : ℕ) → m ≡ node.Leaf x y z → ⊥) → ((x y z : ℕ) → m ≡ node.Said x y z → ⊥) → false ≡ put_in σ u depth s body row
  unfolding node_meant
  neither_same (node.Leaf x y z) a leaf said = absurd (leaf x y z refl)
  neither_same (node.Said x y z) a leaf said = absurd (said x y z refl)
  neither_same (node.Pair x y) a leaf said = absurd (arm_of_action a tt)
  neither_same (node.Body x) a leaf said = absurd (arm_of_action a tt)
  neither_same (node.Duty x y) a leaf said = absurd (arm_of_action a tt)
  neither_same node.None a leaf said = none_same a
