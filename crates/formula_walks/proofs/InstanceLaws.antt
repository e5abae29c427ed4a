-- What an instance walk learns of two rows from their common node: whether the one formula is the other with a term put in. By the eleven shapes of a row that is not bad.
-- Assumes nothing.
use Prim.Native.Nat.{ℕ, ◌+◌}
use mathlib.Core.Path.{◌≡◌, refl, sym, ap, ◌∙◌}
use mathlib.Core.Bool.{Bool, true, false, ◌&&◌, and-true, and_assoc}
use mathlib.Core.Logic.{◌↔◌}
use mathlib.Core.List.{List, [], ◌∷◌}
use Rattle.std.specs.List.{list_all}
use lib.Dec.{eqb}
use lib.ListN.{get_or-map}
use borrow.Author.Tests.{eqb-true, eq-eqb}
use Rattle.definition.specs.01-Words.{absent}
use Rattle.definition.proofs.Tests.{and_true, and_intro, and_is, one_answer, never_true, not_both}
use Rattle.definition.specs.12-Terms.{Sort, is_bound}
use Rattle.definition.specs.13-Formulas.{Formula, kind_of, predicate, owns, says, and, for_all, implies, after, communicates, creates, user_action, no_formula, same, put, put_term}
use Rattle.definition.specs.14-Book.{Row, sort_of_code, tree_in, tree_of}
use Rattle.formula_rows.specs.Nodes.{Node, leaf, said, pair, body, duty, no_node, node_of, node_table}
use Rattle.formula_walks.specs.CommonNode.{common_node}
use Rattle.formula_rows.proofs.Classes.{of_absent}
use Rattle.definition.proofs.TreeEquality.{same_is, same_true}
use Rattle.definition.proofs.Trees.{Shape, predicate_row, owns_row, says_row, and_row, for_all_row, implies_row, each_use_row, once_row, communicates_row, creates_row, user_action_row}
use Rattle.definition.proofs.OneNumber.{fields_of, fields}
use Rattle.formula_walks.proofs.WalkLaws.{IsNode}

-- Trees with the same head are equal where their parts are.
decided : {b : Bool} {P : Type 0} (f g : Formula) → ((b ≡ true) ↔ P) → (f ≡ g → P) → (P → f ≡ g) → same f g ≡ b
decided f g h to from = one_answer (same f g) (same_is f g) (λ e. from (h.0 e), λ q. h.1 (to q))

equal_is : (a b : ℕ) → (eqb a b ≡ true) ↔ (a ≡ b)
equal_is a b = (eqb-true a b, eq-eqb a b)

three_is : (a b c x y z : ℕ) → (eqb a x && eqb c z && eqb b y ≡ true) ↔ (((a ≡ x) × (c ≡ z)) × (b ≡ y))
three_is a b c x y z = and_is (and_is (equal_is a x) (equal_is c z)) (equal_is b y)

said_is : (a c x z : ℕ) (f g : Formula) → (eqb a x && eqb c z && same f g ≡ true) ↔ (((a ≡ x) × (c ≡ z)) × (f ≡ g))
said_is a c x z f g = and_is (and_is (equal_is a x) (equal_is c z)) (same_is f g)

two_is : (f g u v : Formula) → (same f u && same g v ≡ true) ↔ ((f ≡ u) × (g ≡ v))
two_is f g u v = and_is (same_is f u) (same_is g v)

same_predicate : (n m a b c x y z : ℕ) → n ≡ m → same (predicate n a b c) (predicate m x y z) ≡ eqb a x && eqb c z && eqb b y
same_predicate n m a b c x y z is = decided (predicate n a b c) (predicate m x y z) (three_is a b c x y z) (λ e. ((cc, cc), cc)) (λ h. cc)

same_owns : (a b c x y z : ℕ) → c ≡ z → same (owns a b) (owns x y) ≡ eqb a x && eqb c z && eqb b y
same_owns a b c x y z is = decided (owns a b) (owns x y) (three_is a b c x y z) (λ e. ((cc, cc), cc)) (λ h. cc)

same_says : (a c x z : ℕ) (f g : Formula) → same (says a f c) (says x g z) ≡ eqb a x && eqb c z && same f g
same_says a c x z f g = decided (says a f c) (says x g z) (said_is a c x z f g) (λ e. ((cc, cc), cc)) (λ h. cc)

same_and : (f g u v : Formula) → same (and f g) (and u v) ≡ same f u && same g v
same_and f g u v = decided (and f g) (and u v) (two_is f g u v) (λ e. (cc, cc)) (λ h. cc)

same_for_all : (σ τ : Sort) (f g : Formula) → σ ≡ τ → same (for_all σ f) (for_all τ g) ≡ same f g
same_for_all σ τ f g is = decided (for_all σ f) (for_all τ g) (same_is f g) (λ e. cc) (λ h. cc)

same_implies : (f g u v : Formula) → same (implies f g) (implies u v) ≡ same f u && same g v
same_implies f g u v = decided (implies f g) (implies u v) (two_is f g u v) (λ e. (cc, cc)) (λ h. cc)

same_after : (m : ℕ) (f g u v : Formula) → same (after m f g) (after m u v) ≡ same f u && same g v
same_after m f g u v = decided (after m f g) (after m u v) (two_is f g u v) (λ e. (cc, cc)) (λ h. cc)

same_communicates : (a c x z : ℕ) (f g : Formula) → same (communicates a f c) (communicates x g z) ≡ eqb a x && eqb c z && same f g
same_communicates a c x z f g = decided (communicates a f c) (communicates x g z) (said_is a c x z f g) (λ e. ((cc, cc), cc)) (λ h. cc)

same_creates : (a b c x y z : ℕ) → c ≡ z → same (creates a b) (creates x y) ≡ eqb a x && eqb c z && eqb b y
same_creates a b c x y z is = decided (creates a b) (creates x y) (three_is a b c x y z) (λ e. ((cc, cc), cc)) (λ h. cc)

same_user_action : (n m a b c x y z : ℕ) → n ≡ m → same (user_action n a b c) (user_action m x y z) ≡ eqb a x && eqb c z && eqb b y
same_user_action n m a b c x y z is = decided (user_action n a b c) (user_action m x y z) (three_is a b c x y z) (λ e. ((cc, cc), cc)) (λ h. cc)

-- A row's tree by its kind.
pub shape_tree : {l : List Formula} {k : ℕ} {r : Row} → Shape l k r → tree_in l k ≡ tree_of l r
unfolding tree_of
shape_tree (predicate_row e f t) = rw e t
shape_tree (owns_row e f t) = rw e t
shape_tree (says_row e f t) = rw e t
shape_tree (and_row e f t) = rw e t
shape_tree (for_all_row e f t) = rw e t
shape_tree (implies_row e f t) = rw e t
shape_tree (each_use_row e f t) = rw e t
shape_tree (once_row e f t) = rw e t
shape_tree (communicates_row e f t) = rw e t
shape_tree (creates_row e f t) = rw e t
shape_tree (user_action_row e f g t) = rw e t

-- `put` keeps kind and code, and the absent term.
put_head : (σ : Sort) (t d : ℕ) (f : Formula) → (kind_of (put σ t d f) ≡ kind_of f) × ((fields_of (put σ t d f)).code ≡ (fields_of f).code)
unfolding put fields_of
put_head σ t d (predicate c x y z) = (refl, refl)
put_head σ t d (owns x y) = (refl, refl)
put_head σ t d (says x f z) = (refl, refl)
put_head σ t d (and f g) = (refl, refl)
put_head σ t d (for_all τ f) = (refl, refl)
put_head σ t d (implies f g) = (refl, refl)
put_head σ t d (after m a f) = (refl, refl)
put_head σ t d (communicates x f z) = (refl, refl)
put_head σ t d (creates x y) = (refl, refl)
put_head σ t d (user_action c x y z) = (refl, refl)
put_head σ t d no_formula = (refl, refl)

put_absent : (σ : Sort) (t d : ℕ) → put_term σ t d absent ≡ absent
unfolding put_term is_bound
put_absent σ t d = rw (of_absent absent refl)

-- A field that is absent in both.
absent_both : (σ : Sort) (t d n m : ℕ) → n ≡ absent → m ≡ absent → n ≡ put_term σ t d m
absent_both σ t d n m e f = rw (e, f) (sym (put_absent σ t d))

-- A node of the same kind, with the fields of r.
unfoldable pub like : Row → Node → Node
like r (leaf x y z) = leaf r.x r.y r.z
like r (said x y z) = said r.x r.y r.z
like r (pair x y) = pair r.x r.y
like r (body x) = body r.x
like r (duty x y) = duty r.x r.y
like r no_node = no_node

pub like_node : (q r : Row) → q.kind ≡ r.kind → node_of r ≡ like r (node_of q)
unfolding node_of node_table like
like_node q r e = rw e (get_or-map (like r) (node_table q) r.kind no_node)

-- Is the first of the pair the second, with the term put in?
abbrev pub puts : Sort → ℕ → ℕ → ℕ × ℕ → Bool
puts σ t d p = eqb p.0 (put_term σ t d p.1)

-- All of two pairs, and of three.
module _ (f : ℕ × ℕ → Bool) (p q : ℕ × ℕ) where
  all_two : (f p && f q) ≡ list_all f (p ∷ q ∷ [])
  all_two = sym (ap (λ b. f p && b) (and-true (f q)))

  all_three : (r : ℕ × ℕ) → (f p && f q && f r) ≡ list_all f (p ∷ q ∷ r ∷ [])
  all_three r = sym (ap (λ b. f p && (f q && b)) (and-true (f r)) ∙ sym (and_assoc (f p) (f q) (f r)))

-- Whether a row's tree is that of a node with the term put in, if both have one kind and code.
unfoldable pub inst_node : Sort → ℕ → ℕ → List Formula → Row → Node → Bool
inst_node σ t d l r (leaf x y z) = list_all (puts σ t d) ((r.x, x) ∷ (r.z, z) ∷ (r.y, y) ∷ [])
inst_node σ t d l r (said x y z) = list_all (puts σ t d) ((r.x, x) ∷ (r.z, z) ∷ []) && same (tree_in l r.y) (put σ t d (tree_in l y))
inst_node σ t d l r (pair x y) = same (tree_in l r.x) (put σ t d (tree_in l x)) && same (tree_in l r.y) (put σ t d (tree_in l y))
inst_node σ t d l r (body x) = same (tree_in l r.x) (put σ t (d + 1) (tree_in l x))
inst_node σ t d l r (duty x y) = same (tree_in l r.x) (put σ t d (tree_in l x)) && same (tree_in l r.y) (put σ t d (tree_in l y))
inst_node σ t d l r no_node = false

module _ (σ : Sort) (t d : ℕ) {l : List Formula} {j k : ℕ} {q r : Row} where
  shape_same : Shape l j q → Shape l k r → q.kind ≡ r.kind → q.code ≡ r.code → same (tree_in l k) (put σ t d (tree_in l j)) ≡ inst_node σ t d l r (node_of q)
  unfolding tree_of put node_of node_table inst_node fields_of
  shape_same (predicate_row e f u) h kind code = rw (shape_tree h, sym kind ∙ e, u, e) (same_predicate _ _ _ _ _ _ _ _ (sym code) ∙ all_three (puts σ t d) (r.x, q.x) (r.z, q.z) (r.y, q.y))
  shape_same (owns_row e f u) h kind code =
      let v : tree_in l k ≡ owns r.x r.y = rw (shape_tree h, sym kind ∙ e) in
      rw (v, u, e) (same_owns _ _ _ _ _ _ (absent_both σ t d r.z q.z (rw v at (fields h).z) f.rest) ∙ all_three (puts σ t d) (r.x, q.x) (r.z, q.z) (r.y, q.y))
  shape_same (says_row e f u) h kind code = rw (shape_tree h, sym kind ∙ e, u, e) (same_says _ _ _ _ _ _ ∙ ap (λ b. b && same (tree_in l r.y) (put σ t d (tree_in l q.y))) (all_two (puts σ t d) (r.x, q.x) (r.z, q.z)))
  shape_same (and_row e f u) h kind code = rw (shape_tree h, sym kind ∙ e, u, e) (same_and _ _ _ _)
  shape_same (for_all_row e f u) h kind code = rw (shape_tree h, sym kind ∙ e, u, e) (same_for_all _ _ _ _ (ap sort_of_code (sym code)))
  shape_same (implies_row e f u) h kind code = rw (shape_tree h, sym kind ∙ e, u, e) (same_implies _ _ _ _)
  shape_same (each_use_row e f u) h kind code = rw (shape_tree h, sym kind ∙ e, u, e) (same_after _ _ _ _ _)
  shape_same (once_row e f u) h kind code = rw (shape_tree h, sym kind ∙ e, u, e) (same_after _ _ _ _ _)
  shape_same (communicates_row e f u) h kind code = rw (shape_tree h, sym kind ∙ e, u, e) (same_communicates _ _ _ _ _ _ ∙ ap (λ b. b && same (tree_in l r.y) (put σ t d (tree_in l q.y))) (all_two (puts σ t d) (r.x, q.x) (r.z, q.z)))
  shape_same (creates_row e f u) h kind code =
      let v : tree_in l k ≡ creates r.x r.y = rw (shape_tree h, sym kind ∙ e) in
      rw (v, u, e) (same_creates _ _ _ _ _ _ (absent_both σ t d r.z q.z (rw v at (fields h).z) f.rest) ∙ all_three (puts σ t d) (r.x, q.x) (r.z, q.z) (r.y, q.y))
  shape_same (user_action_row e f g u) h kind code = rw (shape_tree h, sym kind ∙ e, u, e) (same_user_action _ _ _ _ _ _ _ _ (sym code) ∙ all_three (puts σ t d) (r.x, q.x) (r.z, q.z) (r.y, q.y))

  shape_heads : Shape l j q → Shape l k r → tree_in l k ≡ put σ t d (tree_in l j) → (q.kind ≡ r.kind) × (q.code ≡ r.code)
  shape_heads g h e =
      let f = fields g in
      let i = fields h in
      let p = put_head σ t d (tree_in l j) in
      (cc (ap kind_of e), cc (ap (λ u. (fields_of u).code) e))

  -- both: one kind and code, and then what the node says
  pub shape_instance : Shape l j q → Shape l k r → same (tree_in l k) (put σ t d (tree_in l j)) ≡ inst_node σ t d l r (common_node q r)
  unfolding common_node inst_node
  shape_instance g h = go (eqb q.kind r.kind && eqb q.code r.code) refl
    where
      go : (b : Bool) → eqb q.kind r.kind && eqb q.code r.code ≡ b → same (tree_in l k) (put σ t d (tree_in l j)) ≡ inst_node σ t d l r (common_node q r)
      go true e =
          let p = and_true (eqb q.kind r.kind) (eqb q.code r.code) e in
          rw e (shape_same g h (eqb-true q.kind r.kind p.0) (eqb-true q.code r.code p.1))
      go false e =
          rw e
          (never_true (same (tree_in l k) (put σ t d (tree_in l j)))
          (λ is. let p = shape_heads g h (same_true (tree_in l k) (put σ t d (tree_in l j)) is) in
          not_both (and_intro (eq-eqb q.kind r.kind p.0) (eq-eqb q.code r.code p.1)) e))

-- Where there is a common node, it is that of the first row, and the second has its kind.
pub common : (q r : Row) {n : Node} → common_node q r ≡ n → IsNode n → (node_of q ≡ n) × (q.kind ≡ r.kind)
unfolding common_node
common q r {n} e is = go (eqb q.kind r.kind && eqb q.code r.code) refl
  where
    go : (b : Bool) → eqb q.kind r.kind && eqb q.code r.code ≡ b → (node_of q ≡ n) × (q.kind ≡ r.kind)
    go true h = (rw h at e, eqb-true q.kind r.kind (and_true (eqb q.kind r.kind) (eqb q.code r.code) h).0)
    go false h = let z : no_node ≡ n = rw h at e in absurd (rw (← z) at is)
