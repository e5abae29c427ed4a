-- The rules that take a formula apart, at formulas of the book: by the kind of its row, which was read. Assumes nothing.
use Prim.Native.Nat.{ℕ}
use mathlib.Core.Path.{◌≡◌, refl, sym, ap, ◌∙◌}
use mathlib.Core.Bool.{Bool, true, false, ◌&&◌, and-false}
use mathlib.Core.List.{List, [], ◌∷◌}
use lib.Dec.{eqb}
use borrow.Author.Tests.{eqb-true, eqb-false}
use Rattle.definition.proofs.Tests.{and_true, both_first, both_second}
use Rattle.definition.specs.12-Terms.{Sort, class_of, is_parameter, is_instance}
use Rattle.definition.specs.13-Formulas.{Formula, kind_of, says, and, for_all, implies, same, put, is_policy, first_part, second_part, source, target, sort_of}
use Rattle.definition.specs.14-Book.{row_at, sort_of_code, tree_in, book as trees}
use Rattle.formula_rows.specs.Meanings.{row_meant}
use Rattle.formula_rows.specs.declared.rows.Row as rows
use Rattle.formula_book.proofs.Laws.{other_kind, owns_kind, says_kind, and_kind, for_all_kind, implies_kind, body_policy}
use Rattle.definition.proofs.TreeEquality.{same_true, same_refl}
use Rattle.definition.specs.11-Layout.{agent_of}
use Rattle.definition.specs.17-Case.{Case, case_of}
use Rattle.definition.specs.21-Rules.{first, second, say, refine, and_left, and_right, admits_parameter, admits_term, body_with}
use Rattle.case_file.specs.LentCase.{Numbered}
use Rattle.rules.specs.Misfits.{RowTells}
use Rattle.rules.proofs.ComparedRows.{lower, read_shape, kind_is}

-- Equal numbers, or others.
pub either : {P : Type 0} (a c : ℕ) → (a ≡ c → P) → ((a ≡ c → ⊥) → P) → P
either {P} a c equal other = go (eqb a c) refl
  where
    go : (t : Bool) → eqb a c ≡ t → P
    go true e = equal (eqb-true a c e)
    go false e = other (eqb-false a c e)

-- Formula k is made of the two formulas that its row r names, which are of the book too.
pub record TwoParts (b : List ℕ) (k : ℕ) (r : rows.Row) (make : Formula → Formula → Formula) : Type 0 where
  pub tree : tree_in (trees b) k ≡ make (tree_in (trees b) r.x) (tree_in (trees b) r.y)
  pub first : Numbered b r.x
  pub second : Numbered b r.y

-- Formula k of the book, by its row.
module _ {b : List ℕ} {k : ℕ} (r : rows.Row) (n : Numbered b k) (is : row_meant r ≡ row_at b k) where
  abbrev tree : Formula
  tree = tree_in (trees b) k

  -- "X says F to Z"
  pub no_says : (r.kind ≡ 2 → ⊥) → (x : ℕ) (g : Formula) (z : ℕ) → same (tree_in (trees b) k) (says x g z) ≡ false
  unfolding row_meant
  no_says other x g z = other_kind (read_shape r n is) (says x g z) other

  module _ (e : r.kind ≡ 2) where
    pub says_tree : tree_in (trees b) k ≡ says r.x (tree_in (trees b) r.y) r.z
    unfolding row_meant
    says_tree = (says_kind (read_shape r n is) e).0

    pub says_body : Numbered b r.y
    unfolding row_meant
    says_body = lower n (says_kind (read_shape r n is) e).1

  -- "F and G"
  pub no_and : (r.kind ≡ 3 → ⊥) → (f g : Formula) → same (tree_in (trees b) k) (and f g) ≡ false
  unfolding row_meant
  no_and other f g = other_kind (read_shape r n is) (and f g) other

  pub and_parts : r.kind ≡ 3 → TwoParts b k r and
  unfolding row_meant
  and_parts e = let t = and_kind (read_shape r n is) e in record { tree = t.0; first = lower n t.1; second = lower n t.2 }

  -- "F implies G"
  pub no_implies : (r.kind ≡ 5 → ⊥) → (f g : Formula) → same (tree_in (trees b) k) (implies f g) ≡ false
  unfolding row_meant
  no_implies other f g = other_kind (read_shape r n is) (implies f g) other

  pub implies_parts : r.kind ≡ 5 → TwoParts b k r implies
  unfolding row_meant
  implies_parts e = let t = implies_kind (read_shape r n is) e in record { tree = t.0; first = lower n t.1; second = lower n t.2 }

  -- for all
  pub no_for_all : (r.kind ≡ 4 → ⊥) → (σ : Sort) (f : Formula) → same (tree_in (trees b) k) (for_all σ f) ≡ false
  unfolding row_meant
  no_for_all other σ f = other_kind (read_shape r n is) (for_all σ f) other

  module _ (e : r.kind ≡ 4) where
    pub for_all_tree : tree_in (trees b) k ≡ for_all (sort_of_code r.code) (tree_in (trees b) r.x)
    unfolding row_meant
    for_all_tree = (for_all_kind (read_shape r n is) e).0

    pub for_all_body : Numbered b r.x
    unfolding row_meant
    for_all_body = lower n (for_all_kind (read_shape r n is) e).1

    pub for_all_policy : is_policy (tree_in (trees b) r.x) ≡ true
    unfolding row_meant
    for_all_policy = body_policy (read_shape r n is) e

-- Rules 3, 7 and 8: the premise k, and the step's own formula f.
module _ {b : List ℕ} {k : ℕ} (r : rows.Row) (n : Numbered b k) (is : row_meant r ≡ row_at b k) (f : Formula) where
  pub not_said : (r.kind ≡ 2 → ⊥) → (c : Case) (a : ℕ) → false ≡ say c f a (tree_in (trees b) k ∷ [])
  unfolding say first
  not_said other c a = sym (no_says r n is other _ f c.agent)

  pub said :
      (s : List ℕ) {q : Bool} {agent : ℕ} → r.kind ≡ 2 → agent ≡ agent_of s → q ≡ same (tree_in (trees b) k) (says r.x f agent) →
      (a : ℕ) → q ≡ say (case_of s) f a (tree_in (trees b) k ∷ [])
  unfolding say first case_of source
  said s e agent q a = q ∙ cc (ap source (says_tree r n is e), agent)

  pub not_left : (r.kind ≡ 3 → ⊥) → (c : Case) (a : ℕ) → false ≡ and_left c f a (tree_in (trees b) k ∷ [])
  unfolding and_left first
  not_left other c a = sym (no_and r n is other f _)

  pub left : {q : Bool} → r.kind ≡ 3 → q ≡ same (tree_in (trees b) k) (and f (tree_in (trees b) r.y)) → (c : Case) (a : ℕ) → q ≡ and_left c f a (tree_in (trees b) k ∷ [])
  unfolding and_left first second_part
  left e q c a = q ∙ ap (λ g. same (tree_in (trees b) k) (and f g)) (sym (ap second_part (and_parts r n is e).tree))

  pub not_right : (r.kind ≡ 3 → ⊥) → (c : Case) (a : ℕ) → false ≡ and_right c f a (tree_in (trees b) k ∷ [])
  unfolding and_right first
  not_right other c a = sym (no_and r n is other _ f)

  pub right : {q : Bool} → r.kind ≡ 3 → q ≡ same (tree_in (trees b) k) (and (tree_in (trees b) r.x) f) → (c : Case) (a : ℕ) → q ≡ and_right c f a (tree_in (trees b) k ∷ [])
  unfolding and_right first first_part
  right e q c a = q ∙ ap (λ g. same (tree_in (trees b) k) (and g f)) (sym (ap first_part (and_parts r n is e).tree))

-- Rule 4: the premises are formula k and any g, and the step's own formula is j.
module _ {b : List ℕ} {k : ℕ} (r : rows.Row) (n : Numbered b k) (is : row_meant r ≡ row_at b k) (g : Formula) where
  pub no_premise : (r.kind ≡ 5 → ⊥) → (c : Case) (f : Formula) (a : ℕ) → false ≡ refine c f a (tree_in (trees b) k ∷ g ∷ [])
  unfolding refine first
  no_premise other c f a = rw (no_implies r n is other _ _)

  module _ {j : ℕ} (o : rows.Row) (m : Numbered b j) (own : row_meant o ≡ row_at b j) where
    -- The first premise is of the right kind, and q and t are the answers to the two comparisons that are left.
    module _ (s : List ℕ) {agent : ℕ} (e : r.kind ≡ 5) (agent_is : agent ≡ agent_of s) where
      refine_is :
          (a : ℕ) → refine (case_of s) (tree_in (trees b) j) a (tree_in (trees b) k ∷ g ∷ [])
          ≡ same g (says agent (tree_in (trees b) r.x) o.z) && same (tree_in (trees b) j) (says agent (tree_in (trees b) r.y) o.z)
      unfolding refine first second case_of first_part second_part target
      refine_is a =
          let t = (implies_parts r n is e).tree in
          let one : first_part (tree_in (trees b) k) ≡ tree_in (trees b) r.x = ap first_part t in
          let two : second_part (tree_in (trees b) k) ≡ tree_in (trees b) r.y = ap second_part t in
          let whole : same (tree_in (trees b) k) (implies (tree_in (trees b) r.x) (tree_in (trees b) r.y)) ≡ true =
          ap (λ f. same f (implies (tree_in (trees b) r.x) (tree_in (trees b) r.y))) t ∙ same_refl _ in
          rw (one, two, agent_is, whole)
          (either o.kind 2
          (λ h. let to : target (tree_in (trees b) j) ≡ o.z = ap target (says_tree o m own h) in rw to)
          (λ other. simp (no_says o m own other, and-false)))

      pub refined :
          {q t : Bool} → q ≡ same g (says agent (tree_in (trees b) r.x) o.z) → q ≡ true →
          t ≡ same (tree_in (trees b) j) (says agent (tree_in (trees b) r.y) o.z) →
          (a : ℕ) → t ≡ refine (case_of s) (tree_in (trees b) j) a (tree_in (trees b) k ∷ g ∷ [])
      refined q holds t a = rw (refine_is a) (both_second q holds t)

      pub unrefined :
          {q : Bool} → q ≡ same g (says agent (tree_in (trees b) r.x) o.z) → q ≡ false →
          (a : ℕ) → false ≡ refine (case_of s) (tree_in (trees b) j) a (tree_in (trees b) k ∷ g ∷ [])
      unrefined q fails a = rw (refine_is a) (both_first _ q fails)

-- Rules 14 and 15: the for-all is formula k, and a the argument.
module _ {b : List ℕ} {k : ℕ} (r : rows.Row) (n : Numbered b k) (is : row_meant r ≡ row_at b k) (a : ℕ) where
  pub no_parameter : (r.kind ≡ 4 → ⊥) → false ≡ admits_parameter a (tree_in (trees b) k)
  unfolding admits_parameter
  no_parameter other = rw (no_for_all r n is other _ _)

  pub no_term : (r.kind ≡ 4 → ⊥) → false ≡ admits_term a (tree_in (trees b) k)
  unfolding admits_term
  no_term other = rw (no_for_all r n is other _ _)

  module _ {σ : Sort} (e : r.kind ≡ 4) (sort : σ ≡ sort_of_code r.code) where
    for_all_is : tree_in (trees b) k ≡ for_all σ (tree_in (trees b) r.x)
    for_all_is = for_all_tree r n is e ∙ ap (λ τ. for_all τ (tree_in (trees b) r.x)) (sym sort)

    pub parameter_admitted : admits_parameter a (tree_in (trees b) k) ≡ is_parameter σ (class_of a)
    unfolding admits_parameter first_part sort_of
    parameter_admitted = rw (for_all_is, same_refl (for_all σ (tree_in (trees b) r.x)))

    pub term_admitted : admits_term a (tree_in (trees b) k) ≡ is_instance σ (class_of a)
    unfolding admits_term first_part sort_of
    term_admitted = rw (for_all_is, same_refl (for_all σ (tree_in (trees b) r.x)))

    pub body_with_lem : body_with a (tree_in (trees b) k) ≡ put σ a 0 (tree_in (trees b) r.x)
    unfolding body_with first_part sort_of
    body_with_lem = rw for_all_is

-- A formula for which an argument is admitted is a for-all.
module _ (a : ℕ) (g : Formula) where
  for_all_of : (q : Bool) → same g (for_all (sort_of g) (first_part g)) && q ≡ true → kind_of g ≡ 4
  for_all_of q e = ap kind_of (same_true g (for_all (sort_of g) (first_part g)) (and_true (same g (for_all (sort_of g) (first_part g))) q e).0)

  pub parameter_kind : admits_parameter a g ≡ true → kind_of g ≡ 4
  unfolding admits_parameter
  parameter_kind = for_all_of (is_parameter (sort_of g) (class_of a))

  pub term_kind : admits_term a g ≡ true → kind_of g ≡ 4
  unfolding admits_term
  term_kind = for_all_of (is_instance (sort_of g) (class_of a))

-- What the row of formula k tells.
pub told : {b : List ℕ} {k : ℕ} (r : rows.Row) → Numbered b k → row_meant r ≡ row_at b k → RowTells r (tree_in (trees b) k)
unfolding row_meant source target
told r n is =
    record {
      kind = kind_is r n is;
      owner = λ e. sym (ap source (owns_kind (read_shape r n is) e));
      source = λ e. sym (ap source (says_tree r n is e));
      target = λ e. sym (ap target (says_tree r n is e));
    }
