-- A formula of the book compared with the one that a row would stand for: the trees are equal just if the rows are. By the fields of a row, which can be read off its tree. Assumes nothing.
use Prim.Native.Nat.{ℕ, ◌<◌}
use mathlib.Core.Path.{◌≡◌, refl, ap, ◌∙◌}
use mathlib.Core.Bool.{true, false}
use mathlib.Core.List.{List}
use native.Mathlib.Omega.{arith}
use Rattle.definition.specs.01-Words.{absent}
use Rattle.definition.proofs.Tests.{one_answer, never_true}
use Rattle.definition.specs.12-Terms.{Sort}
use Rattle.definition.specs.13-Formulas.{Formula, kind_of, predicate, owns, says, and, for_all, implies, after, communicates, creates, user_action, no_formula, same, is_policy, put}
use Rattle.definition.specs.14-Book.{Row, sort_of_code, tree_in, tree_of, same_row}
use Rattle.definition.proofs.TreeEquality.{same_is, same_true}
use Rattle.formula_rows.proofs.RowEquality.{same_equal}
use Rattle.definition.proofs.Trees.{Shape, predicate_row, owns_row, says_row, and_row, for_all_row, implies_row, each_use_row, once_row, communicates_row, creates_row, user_action_row}
use Rattle.definition.proofs.OneNumber.{fields_of, Has, fields, one_row, same_row_lem}
use Rattle.formula_walks.proofs.InstanceLaws.{shape_tree}

-- The row has the fields that its tree has, over the first n formulas.
abbrev pub Proper : List Formula → ℕ → Row → Type 0
Proper l n r = Has l n r (tree_of l r)

-- Formula f, whose row is q, compared with the formula of the row r.
pub same_as_row :
    {l : List Formula} {f n : ℕ} {q r : Row} → Shape l f q → ((i j : ℕ) → i < f → j < n → tree_in l i ≡ tree_in l j → i ≡ j) →
    Proper l n r → same (tree_in l f) (tree_of l r) ≡ same_row q r
same_as_row {l} {f} {n} {q} {r} shape low proper =
    one_answer (same (tree_in l f) (tree_of l r)) (same_is (tree_in l f) (tree_of l r)) (
      λ e. shape_tree shape ∙ ap (tree_of l) (same_equal q r e),
      λ e. same_row_lem q r (one_row l f n q r (tree_of l r) low (rw e at (fields shape)) proper),
    )

-- Formula f is none whose row has another kind.
pub other_kind : {l : List Formula} {f : ℕ} {q : Row} → Shape l f q → (g : Formula) → (q.kind ≡ kind_of g → ⊥) → same (tree_in l f) g ≡ false
other_kind {l} {f} shape g other =
    never_true (same (tree_in l f) g) (λ e. other ((fields shape).kind ∙ ap kind_of (same_true (tree_in l f) g e)))

-- The rows that rules compare with: terms alone, or terms and formulas of the book.
module _ (l : List Formula) (n : ℕ) where
  pub predicate_proper : (c x y z : ℕ) → Proper l n (record { kind = 0; code = c; x = x; y = y; z = z })
  unfolding fields_of tree_of
  predicate_proper c x y z = record { kind = refl; code = refl; x = refl; y = refl; z = refl }

  pub owns_proper : (x y : ℕ) → Proper l n (record { kind = 1; code = 0; x = x; y = y; z = absent })
  unfolding fields_of tree_of
  owns_proper x y = record { kind = refl; code = refl; x = refl; y = refl; z = refl }

  pub says_proper : (x y z : ℕ) → y < n → Proper l n (record { kind = 2; code = 0; x = x; y = y; z = z })
  unfolding fields_of tree_of
  says_proper x y z h = record { kind = refl; code = refl; x = refl; y = (h, refl); z = refl }

  module _ (x y : ℕ) (h : x < n) (k : y < n) where
    pub and_proper : Proper l n (record { kind = 3; code = 0; x = x; y = y; z = absent })
    unfolding fields_of tree_of
    and_proper = record { kind = refl; code = refl; x = (h, refl); y = (k, refl); z = refl }

    pub implies_proper : Proper l n (record { kind = 5; code = 0; x = x; y = y; z = absent })
    unfolding fields_of tree_of
    implies_proper = record { kind = refl; code = refl; x = (h, refl); y = (k, refl); z = refl }

    pub each_use_proper : Proper l n (record { kind = 6; code = 0; x = x; y = y; z = absent })
    unfolding fields_of tree_of
    each_use_proper = record { kind = refl; code = refl; x = (h, refl); y = (k, refl); z = refl }

    pub once_proper : Proper l n (record { kind = 7; code = 0; x = x; y = y; z = absent })
    unfolding fields_of tree_of
    once_proper = record { kind = refl; code = refl; x = (h, refl); y = (k, refl); z = refl }

-- The tree of a row by its kind, and the bounds of its formulas.
module _ {l : List Formula} {f : ℕ} {q : Row} (shape : Shape l f q) where
  pub owns_kind : q.kind ≡ 1 → tree_in l f ≡ owns q.x q.y
  unfolding tree_of
  owns_kind e = shape_tree shape ∙ rw e

  pub says_kind : q.kind ≡ 2 → (tree_in l f ≡ says q.x (tree_in l q.y) q.z) × (q.y < f)
  unfolding tree_of fields_of
  says_kind e =
      let is : tree_in l f ≡ says q.x (tree_in l q.y) q.z = shape_tree shape ∙ rw e in
      (is, (rw is at (fields shape)).y.0)

  pub and_kind : q.kind ≡ 3 → (tree_in l f ≡ and (tree_in l q.x) (tree_in l q.y)) × (q.x < f) × (q.y < f)
  unfolding tree_of fields_of
  and_kind e =
      let is : tree_in l f ≡ and (tree_in l q.x) (tree_in l q.y) = shape_tree shape ∙ rw e in
      let has = rw is at (fields shape) in
      (is, has.x.0, has.y.0)

  pub for_all_kind : q.kind ≡ 4 → (tree_in l f ≡ for_all (sort_of_code q.code) (tree_in l q.x)) × (q.x < f)
  unfolding tree_of fields_of
  for_all_kind e =
      let is : tree_in l f ≡ for_all (sort_of_code q.code) (tree_in l q.x) = shape_tree shape ∙ rw e in
      (is, (rw is at (fields shape)).x.0)

  pub implies_kind : q.kind ≡ 5 → (tree_in l f ≡ implies (tree_in l q.x) (tree_in l q.y)) × (q.x < f) × (q.y < f)
  unfolding tree_of fields_of
  implies_kind e =
      let is : tree_in l f ≡ implies (tree_in l q.x) (tree_in l q.y) = shape_tree shape ∙ rw e in
      let has = rw is at (fields shape) in
      (is, has.x.0, has.y.0)

  pub communicates_kind : q.kind ≡ 8 → (tree_in l f ≡ communicates q.x (tree_in l q.y) q.z) × (q.y < f)
  unfolding tree_of fields_of
  communicates_kind e =
      let is : tree_in l f ≡ communicates q.x (tree_in l q.y) q.z = shape_tree shape ∙ rw e in
      (is, (rw is at (fields shape)).y.0)

  pub creates_kind : q.kind ≡ 9 → tree_in l f ≡ creates q.x q.y
  unfolding tree_of
  creates_kind e = shape_tree shape ∙ rw e

  pub user_action_kind : q.kind ≡ 10 → tree_in l f ≡ user_action q.code q.x q.y q.z
  unfolding tree_of
  user_action_kind e = shape_tree shape ∙ rw e

-- The body of a for-all is a policy.
pub body_policy : {l : List Formula} {f : ℕ} {q : Row} → Shape l f q → q.kind ≡ 4 → is_policy (tree_in l q.x) ≡ true
body_policy (for_all_row e h is) k = h.body.fit
body_policy (predicate_row e h is) k = absurd (omega arith)
body_policy (owns_row e h is) k = absurd (omega arith)
body_policy (says_row e h is) k = absurd (omega arith)
body_policy (and_row e h is) k = absurd (omega arith)
body_policy (implies_row e h is) k = absurd (omega arith)
body_policy (each_use_row e h is) k = absurd (omega arith)
body_policy (once_row e h is) k = absurd (omega arith)
body_policy (communicates_row e h is) k = absurd (omega arith)
body_policy (creates_row e h is) k = absurd (omega arith)
body_policy (user_action_row e h i is) k = absurd (omega arith)

-- A policy with a term put in is a policy, and no action becomes one.
pub put_policy : (σ : Sort) (t d : ℕ) (f : Formula) → is_policy (put σ t d f) ≡ is_policy f
unfolding is_policy put
put_policy σ t d (predicate c x y z) = refl
put_policy σ t d (owns x y) = refl
put_policy σ t d (says x f z) = refl
put_policy σ t d (and f g) = refl
put_policy σ t d (for_all τ f) = refl
put_policy σ t d (implies f g) = refl
put_policy σ t d (after m a f) = refl
put_policy σ t d (communicates x f z) = refl
put_policy σ t d (creates x y) = refl
put_policy σ t d (user_action c x y z) = refl
put_policy σ t d no_formula = refl
