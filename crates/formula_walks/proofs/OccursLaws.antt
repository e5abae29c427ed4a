-- What an occurrence walk finds in a row, by its node, and what follows for the whole that it walks. By the eleven shapes of a row that is not bad. Assumes nothing.
use Prim.Native.Nat.{ℕ, ◌+◌, ◌≤◌, ◌<◌}
use mathlib.Core.Path.{◌≡◌, refl, sym, ap, ◌∙◌}
use mathlib.Core.Bool.{Bool, true, false, ◌||◌, or-false, or_assoc}
use mathlib.Core.List.{List, [], ◌∷◌}
use Rattle.std.specs.List.{list_any}
use native.Mathlib.Omega.{arith}
use Rattle.definition.proofs.Tests.{either_first, either_second}
use Rattle.definition.proofs.Trees.{Shape, predicate_row, owns_row, says_row, and_row, for_all_row, implies_row, each_use_row, once_row, communicates_row, creates_row, user_action_row}
use Rattle.definition.specs.13-Formulas.{Formula, is_policy, Sought, is_sought, has}
use Rattle.definition.specs.14-Book.{Row, row_at, tree_in, book}
use Rattle.formula_rows.specs.Nodes.{Node, leaf, said, pair, body, duty, no_node, node_of, node_table}
use Rattle.formula_rows.specs.Meanings.{node_meant}
use Rattle.formula_rows.specs.declared.nodes.Node as nodes
use Rattle.formula_rows.specs.declared.nodes.Node.TheVariants as node
use Rattle.formula_walks.specs.WalkRows.{WalkRow, Present}
use Rattle.formula_walks.proofs.WalkLaws.{shape, Before, terms, child, Parts, said_parts, pair_parts, duty_parts, Here, to_first, to_last, to_body}

-- of two terms, and of three, as a list
module _ (f : ℕ → Bool) (x y : ℕ) where
  any_two : (f x || f y) ≡ list_any f (x ∷ y ∷ [])
  any_two = sym (ap (λ b. f x || b) (or-false (f y)))

  any_three : (z : ℕ) → (f x || f y || f z) ≡ list_any f (x ∷ y ∷ z ∷ [])
  any_three z = sym (ap (λ b. f x || (f y || b)) (or-false (f z)) ∙ sym (or_assoc (f x) (f y) (f z)))

-- what is found in a node
has_node : Sought → ℕ → List Formula → Node → Bool
has_node w d l (leaf x y z) = list_any (is_sought w d) (x ∷ y ∷ z ∷ [])
has_node w d l (said x y z) = list_any (is_sought w d) (x ∷ z ∷ []) || has w d (tree_in l y)
has_node w d l (pair x y) = has w d (tree_in l x) || has w d (tree_in l y)
has_node w d l (body x) = has w (d + 1) (tree_in l x)
has_node w d l (duty x y) = has w d (tree_in l x) || has w d (tree_in l y)
has_node w d l no_node = false

shape_has : {l : List Formula} {k : ℕ} {r : Row} (w : Sought) → Present w → (d : ℕ) → Shape l k r → has w d (tree_in l k) ≡ has_node w d l (node_of r)
unfolding has has_node node_of node_table
shape_has {l} {k} {r} w p d (predicate_row e f t) = rw (t, e) (any_three (is_sought w d) r.x r.y r.z)
shape_has {l} {k} {r} w p d (owns_row e f t) = rw (t, e, f.rest, p d) (any_two (is_sought w d) r.x r.y)
shape_has {l} {k} {r} w p d (says_row e f t) = rw (t, e) (ap (λ b. b || has w d (tree_in l r.y)) (any_two (is_sought w d) r.x r.z))
shape_has w p d (and_row e f t) = rw (t, e)
shape_has w p d (for_all_row e f t) = rw (t, e)
shape_has w p d (implies_row e f t) = rw (t, e)
shape_has w p d (each_use_row e f t) = rw (t, e)
shape_has w p d (once_row e f t) = rw (t, e)
shape_has {l} {k} {r} w p d (communicates_row e f t) = rw (t, e) (ap (λ b. b || has w d (tree_in l r.y)) (any_two (is_sought w d) r.x r.z))
shape_has {l} {k} {r} w p d (creates_row e f t) = rw (t, e, f.rest, p d) (any_two (is_sought w d) r.x r.y)
shape_has {l} {k} {r} w p d (user_action_row e f g t) = rw (t, e) (any_three (is_sought w d) r.x r.y r.z)

-- of a node that ends in a policy: what is found before it, and in it
abbrev pub has_before : Sought → ℕ → List Formula → Before → Bool
has_before w d l (terms x z) = list_any (is_sought w d) (x ∷ z ∷ [])
has_before w d l (child is x) = has w d (tree_in l x)

parts_have : {m : nodes.Node} {b : Before} {y : ℕ} (w : Sought) (d : ℕ) (l : List Formula) → Parts m b y → has_node w d l (node_meant m) ≡ has_before w d l b || has w d (tree_in l y)
unfolding has_node node_meant
parts_have w d l said_parts = refl
parts_have w d l pair_parts = refl
parts_have w d l duty_parts = refl

-- A walk that began at `row`, under `depth` for-alls, and has come to `place`, under `under`: what it finds there is what it finds in the whole.
pub record Ahead (is : Formula → Bool) (w : Sought) (s : List ℕ) (row depth place under : ℕ) : Type 0 where
  pub lower : place ≤ row
  pub may : WalkRow is s place under
  pub same : has w under (tree_in (book s) place) ≡ has w depth (tree_in (book s) row)

pub ahead_all : {is : Formula → Bool} {w : Sought} {s : List ℕ} {row depth : ℕ} → WalkRow is s row depth → Ahead is w s row depth row depth
ahead_all g = record { lower = omega arith; may = g; same = refl }

-- An arm of the walk: it has read the node of the place.
pub record Arm (is : Formula → Bool) (w : Sought) (s : List ℕ) (t row depth place under : ℕ) (m : nodes.Node) : Type 0 where
  pub start : row ≡ t
  pub ahead : Ahead is w s row depth place under
  pub present : Present w
  pub node : node_of (row_at s place) ≡ node_meant m

-- the arm of an action, which is the whole
pub own_arm : {is : Formula → Bool} {w : Sought} {s : List ℕ} {t row depth : ℕ} {m : nodes.Node} → (row ≡ t) × (WalkRow is s row depth × Present w) → node_of (row_at s row) ≡ node_meant m → Arm is w s t row depth row depth m
own_arm p e = record { start = p.0; ahead = ahead_all p.1.0; present = p.1.1; node = e }

module _ {is : Formula → Bool} {w : Sought} {s : List ℕ} {t row depth place under : ℕ} {m : nodes.Node} (a : Arm is w s t row depth place under m) where
  pub here : Here is s t place under m
  here = record { lower = omega (arith, a.ahead.lower, a.start); may = a.ahead.may; node = a.node }

  found : has_node w under (book s) (node_meant m) ≡ has w depth (tree_in (book s) row)
  found = ap (has_node w under (book s)) (sym a.node) ∙ sym (shape_has w a.present under (shape a.ahead.may)) ∙ a.ahead.same

  parts_found : {b : Before} {y : ℕ} → Parts m b y → has_before w under (book s) b || has w under (tree_in (book s) y) ≡ has w depth (tree_in (book s) row)
  parts_found p = sym (parts_have w under (book s) p) ∙ found

  -- a call for the first child, or for the policy
  pub calls_first : {js : Formula → Bool} {x y : ℕ} → Parts m (child js x) y → (x < t) × (WalkRow js s x under × Present w)
  calls_first p = let c = to_first here p in (c.0, (c.1, a.present))

  pub calls_last : {b : Before} {y : ℕ} → Parts m b y → (y < t) × (WalkRow is_policy s y under × Present w)
  calls_last p = let c = to_last here p in (c.0, (c.1, a.present))

  -- the answer, where it is found before the policy, and where it is not
  pub found_before : {b : Before} {y : ℕ} {r : Bool} → Parts m b y → r ≡ has_before w under (book s) b → r ≡ true → true ≡ has w depth (tree_in (book s) row)
  found_before p e t = either_first _ e t ∙ parts_found p

  pub found_last : {b : Before} {y : ℕ} {r q : Bool} → Parts m b y → r ≡ has_before w under (book s) b → r ≡ false → q ≡ has w under (tree_in (book s) y) → q ≡ has w depth (tree_in (book s) row)
  found_last p e f q = either_second e f q ∙ parts_found p

  -- the loop goes on with the policy
  pub ahead_last : {b : Before} {y : ℕ} {r : Bool} → Parts m b y → r ≡ has_before w under (book s) b → r ≡ false → Ahead is_policy w s row depth y under
  ahead_last p e f = let c = to_last here p in record { lower = omega (arith, c.0, a.start); may = c.1; same = found_last p e f refl }

-- a leaf, and a for-all
module _ {is : Formula → Bool} {w : Sought} {s : List ℕ} {t row depth place under : ℕ} where
  pub leaf_found : {x y z : ℕ} {r : Bool} → Arm is w s t row depth place under (node.Leaf x y z) → r ≡ list_any (is_sought w under) (x ∷ y ∷ z ∷ []) → r ≡ has w depth (tree_in (book s) row)
  unfolding has_node node_meant
  leaf_found a e = e ∙ found a

  pub ahead_body : {x : ℕ} → Arm is w s t row depth place under (node.Body x) → Ahead is_policy w s row depth x (under + 1)
  unfolding has_node node_meant
  ahead_body a = let c = to_body (here a) (under + 1) (omega arith) in record { lower = omega (arith, c.0, a.start); may = c.1; same = found a }
