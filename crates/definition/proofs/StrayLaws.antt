-- Which rows the tree of a row has, and that a data variable stands in the tree just if one of them holds it. By the eleven shapes of a row that is not bad. Assumes nothing.
use Prim.Native.Nat.{ℕ, zero, suc, ◌+◌, ◌≤◌, ◌<◌}
use mathlib.Core.Path.{◌≡◌, refl, sym, ◌∙◌}
use mathlib.Core.Bool.{Bool, true, false, ◌&&◌, ◌||◌}
use mathlib.Core.Logic.{inl, inr, ⊎_elim, ◌↔◌}
use mathlib.Core.List.{List, [], ◌∷◌}
use native.Mathlib.Omega.{arith}
use borrow.Author.Tests.{lt-ltb}
use Rattle.definition.proofs.ListLaws.{among_is, joined_among, among_joined}
use Rattle.definition.proofs.OccurrenceLaws.{variable_class}
use Rattle.definition.proofs.RangeLaws.{lowest_is, lowest_here}
use Rattle.definition.proofs.Tests.{and_true, and_intro, or_is₃, or_true, or_intro_left, or_intro_right, not_both, never_true, trichotomy}
use Rattle.definition.proofs.Trees.{AgentPolicyAgent, TwoParts, SortAndBody, Shape, predicate_row, owns_row, says_row, and_row, for_all_row, implies_row, each_use_row, once_row, communicates_row, creates_row, user_action_row, row_shape}
use Rattle.definition.specs.01-Words.{absent}
use Rattle.definition.specs.03-Lists.{Among, is_among}
use Rattle.definition.specs.12-Terms.{agents, data_objects, Class, object, parameter, variable, absent_term, no_term, same_sort, class_of, is_object, is_parameter, is_instance, is_variable, has_sort}
use Rattle.definition.specs.13-Formulas.{Formula, predicate, owns, says, and, for_all, implies, after, communicates, creates, user_action, no_formula, data_variable, is_sought, has}
use Rattle.definition.specs.14-Book.{Row, row_at, book_rows, tree_in, book, in_place, children_of, rows_within, rows_of, holds_variable, stray_row}
use Rattle.definition.specs.41-Occurrences.{GoodRow, Reaches, itself, below, Holds, Stray, StrayIs}

-- a row's own fields as a test
pub holds_is : (r : Row) → (holds_variable r ≡ true) ↔ Holds r
unfolding holds_variable is_sought
holds_is r = or_is₃ (variable_class data_objects (class_of r.x)) (variable_class data_objects (class_of r.y)) (variable_class data_objects (class_of r.z))

-- the depth of a data variable does not matter
any_depth : (d e : ℕ) (f : Formula) → has data_variable d f ≡ has data_variable e f
unfolding has is_sought
any_depth d e (predicate c x y z) = refl
any_depth d e (owns x y) = refl
any_depth d e (says x f z) = rw (any_depth d e f)
any_depth d e (and f g) = rw (any_depth d e f, any_depth d e g)
any_depth d e (for_all σ f) = any_depth (d + 1) (e + 1) f
any_depth d e (implies f g) = rw (any_depth d e f, any_depth d e g)
any_depth d e (after m a f) = rw (any_depth d e a, any_depth d e f)
any_depth d e (communicates x f z) = rw (any_depth d e f)
any_depth d e (creates x y) = refl
any_depth d e (user_action c x y z) = refl
any_depth d e no_formula = refl

-- the number of a row is no variable, and no more is the absent term
abbrev is_var : ℕ → Bool
is_var t = is_sought data_variable 0 t

low_other : (n : ℕ) → n < 1024 → is_var n ≡ false
unfolding is_sought class_of is_variable
low_other n lt = rw (lt-ltb n 16384 (omega arith))

absent_other : (t : ℕ) → t ≡ absent → is_var t ≡ false
unfolding is_sought class_of is_variable
absent_other t e = rw e

-- no more is what stands in an agent's place
agent_other : (t : ℕ) → in_place agents t ≡ true → is_var t ≡ false
unfolding in_place is_sought has_sort is_instance is_object is_parameter is_variable same_sort
agent_other t e = go (class_of t) e
  where
    go : (c : Class) → has_sort agents c ≡ true → is_variable data_objects c ≡ false
    go (object σ) h = refl
    go (parameter σ) h = refl
    go (variable agents n) h = refl
    go (variable data_objects n) h = absurd (not_both h refl)
    go absent_term h = refl
    go no_term h = refl

-- Does a data variable stand in a row's tree? In one of these rows' trees?
abbrev within : List Formula → ℕ → Bool
within l n = has data_variable 0 (tree_in l n)

has_in : List Formula → List ℕ → Bool
has_in l [] = false
has_in l (i ∷ is) = has data_variable 0 (tree_in l i) || has_in l is

in_one : (l : List Formula) (is : List ℕ) → has_in l is ≡ true → (i : ℕ) × Among i is × (has data_variable 0 (tree_in l i) ≡ true)
unfolding has_in
in_one l [] e = absurd (not_both e refl)
in_one l (i ∷ is) e =
    ⊎_elim (λ h. (i, inl refl, h)) (λ h. let w = in_one l is h in (w.0, inr w.1, w.2)) (or_true (has data_variable 0 (tree_in l i)) (has_in l is) e)

one_in : (l : List Formula) (i : ℕ) (is : List ℕ) → Among i is → has data_variable 0 (tree_in l i) ≡ true → has_in l is ≡ true
unfolding has_in
one_in l i [] a e = absurd a
one_in l i (j ∷ is) a e =
    ⊎_elim (λ h. or_intro_left (has_in l is) (rw h at e)) (λ h. or_intro_right (has data_variable 0 (tree_in l j)) (one_in l i is h e)) a

-- tests joined in another order
alone : (a : Bool) → a ≡ a || false
alone true = refl
alone false = refl

two : (a b : Bool) → a || b ≡ a || (b || false)
two true b = refl
two false b = alone b

-- the terms of a row without children, of one with two terms, and of what is said
module _ (r : Row) where
  leaf_terms : is_var r.x || is_var r.y || is_var r.z ≡ holds_variable r || false
  unfolding holds_variable
  leaf_terms = alone (is_var r.x || is_var r.y || is_var r.z)

  pair_terms : r.z ≡ absent → is_var r.x || is_var r.y ≡ holds_variable r || false
  unfolding holds_variable
  pair_terms e = rw (absent_other r.z e) (alone (is_var r.x || is_var r.y) ∙ alone (is_var r.x || is_var r.y || false))

  said_terms : in_place agents r.x ≡ true → in_place agents r.z ≡ true → holds_variable r ≡ false → (f : Bool) → is_var r.x || is_var r.z || f ≡ holds_variable r || (f || false)
  said_terms x z none f = rw (none, agent_other r.x x, agent_other r.z z) (alone f)

-- A row that holds a formula holds no data variable itself: what is said has agents around it.
module _ {l : List Formula} {k : ℕ} {r : Row} (few : k < 1024) where
  pub said_clear : AgentPolicyAgent l k r → holds_variable r ≡ false
  unfolding holds_variable
  said_clear f = rw (agent_other r.x f.source, low_other r.y (omega (arith, f.body.lower)), agent_other r.z f.target)

  pub pair_clear : {first : Formula → Bool} → TwoParts first l k r → holds_variable r ≡ false
  unfolding holds_variable
  pair_clear f = rw (low_other r.x (omega (arith, f.one.lower)), low_other r.y (omega (arith, f.two.lower)), absent_other r.z f.rest)

  pub body_clear : SortAndBody l k r → holds_variable r ≡ false
  unfolding holds_variable
  body_clear f = rw (low_other r.x (omega (arith, f.body.lower)), absent_other r.y f.second, absent_other r.z f.rest)

  -- A data variable stands in the tree of a row that is not bad just if the row itself holds one, or one stands in the tree of a row that it holds.
  own_or_below : Shape l k r → within l k ≡ holds_variable r || has_in l (children_of r)
  unfolding has children_of has_in holds_variable
  own_or_below (predicate_row e f t) = rw (t, e) (leaf_terms r)
  own_or_below (owns_row e f t) = rw (t, e) (pair_terms r f.rest)
  own_or_below (says_row e f t) = rw (t, e) (said_terms r f.source f.target (said_clear f) (within l r.y))
  own_or_below (and_row e f t) = rw (t, e, pair_clear f) (two (within l r.x) (within l r.y))
  own_or_below (for_all_row e f t) = rw (t, e, body_clear f, any_depth 1 0 (tree_in l r.x)) (alone (within l r.x))
  own_or_below (implies_row e f t) = rw (t, e, pair_clear f) (two (within l r.x) (within l r.y))
  own_or_below (each_use_row e f t) = rw (t, e, pair_clear f) (two (within l r.x) (within l r.y))
  own_or_below (once_row e f t) = rw (t, e, pair_clear f) (two (within l r.x) (within l r.y))
  own_or_below (communicates_row e f t) = rw (t, e) (said_terms r f.source f.target (said_clear f) (within l r.y))
  own_or_below (creates_row e f t) = rw (t, e) (pair_terms r f.rest)
  own_or_below (user_action_row e f g t) = rw (t, e) (leaf_terms r)

-- the rows that it holds are lower
one_of : {k x : ℕ} (i : ℕ) → x < k → Among i (x ∷ []) → i < k
one_of i lt (inl e) = omega arith
one_of i lt (inr a) = absurd a

two_of : {k x y : ℕ} (i : ℕ) → x < k → y < k → Among i (x ∷ y ∷ []) → i < k
two_of i lt to (inl e) = omega arith
two_of i lt to (inr a) = one_of i to a

lower_rows : {l : List Formula} {k : ℕ} {r : Row} (i : ℕ) → Shape l k r → Among i (children_of r) → i < k
unfolding children_of
lower_rows i (predicate_row e f t) a = absurd (rw e at a)
lower_rows i (owns_row e f t) a = absurd (rw e at a)
lower_rows i (says_row e f t) a = one_of i f.body.lower (rw e at a)
lower_rows i (and_row e f t) a = two_of i f.one.lower f.two.lower (rw e at a)
lower_rows i (for_all_row e f t) a = one_of i f.body.lower (rw e at a)
lower_rows i (implies_row e f t) a = two_of i f.one.lower f.two.lower (rw e at a)
lower_rows i (each_use_row e f t) a = two_of i f.one.lower f.two.lower (rw e at a)
lower_rows i (once_row e f t) a = two_of i f.one.lower f.two.lower (rw e at a)
lower_rows i (communicates_row e f t) a = one_of i f.body.lower (rw e at a)
lower_rows i (creates_row e f t) a = absurd (rw e at a)
lower_rows i (user_action_row e f g t) a = absurd (rw e at a)

module _ {s : List ℕ} where
  pub shaped : {k : ℕ} → GoodRow s k → Shape (book s) k (row_at s k)
  shaped {k} g = row_shape s k (g.good k (omega arith)) g.inside

  pub child_lower : {k i : ℕ} → GoodRow s k → Among i (children_of (row_at s k)) → i < k
  child_lower {k} {i} g a = lower_rows i (shaped g) a

  good_below : {k i : ℕ} → GoodRow s k → i ≤ k → GoodRow s i
  good_below g le = record { good = λ j l. g.good j (omega arith); inside = omega (arith, g.inside); few = omega (arith, g.few) }

  pub child_good : {k i : ℕ} → GoodRow s k → Among i (children_of (row_at s k)) → GoodRow s i
  child_good g a = let lt = child_lower g a in good_below g (omega arith)

  -- what is reached is not above
  pub reached_below : {k j : ℕ} → GoodRow s k → Reaches s k j → j ≤ k
  reached_below g itself = omega arith
  reached_below g (below a r) = omega (arith, child_lower g a, reached_below (child_good g a) r)

  -- the rows of a tree are those that are reached
  rows_reached : (d k q : ℕ) → Among q (rows_within s d k) → Reaches s k q
  unfolding rows_within
  rows_reached zero k q a = absurd a
  rows_reached (suc d) k q (inl e) = rw e itself
  rows_reached (suc d) k q (inr a) =
      let w = joined_among (rows_within s d) q (children_of (row_at s k)) a in
      below w.1 (rows_reached d w.0 q w.2)

  reached_rows : (d : ℕ) {k q : ℕ} → GoodRow s k → k < d → Reaches s k q → Among q (rows_within s d k)
  unfolding rows_within
  reached_rows zero g lt r = absurd (omega arith)
  reached_rows (suc d) g lt itself = inl refl
  reached_rows (suc d) {k} {q} g lt (below {i = i} a r) =
      inr (among_joined (rows_within s d) q i (children_of (row_at s k)) a (reached_rows d (child_good g a) (omega (arith, child_lower g a)) r))

  -- a data variable in the tree stands in a row of it
  pub some_stray : (n k : ℕ) → k < n → GoodRow s k → has data_variable 0 (tree_in (book s) k) ≡ true → (q : ℕ) × Stray s k q
  some_stray zero k lt g e = absurd (omega arith)
  some_stray (suc n) k lt g e =
      ⊎_elim (λ h. (k, (itself, (holds_is _).0 h)))
      (λ h.
      let w = in_one (book s) (children_of (row_at s k)) h in
      let v = some_stray n w.0 (omega (arith, child_lower g w.1)) (child_good g w.1) w.2 in
      (v.0, (below w.1 v.1.0, v.1.1)))
      (or_true (holds_variable (row_at s k)) (has_in (book s) (children_of (row_at s k))) (sym (own_or_below g.few (shaped g)) ∙ e))

  pub stray_has : {k q : ℕ} → GoodRow s k → Stray s k q → has data_variable 0 (tree_in (book s) k) ≡ true
  stray_has {k} g (itself, h) = own_or_below g.few (shaped g) ∙ or_intro_left (has_in (book s) (children_of (row_at s k))) ((holds_is _).1 h)
  stray_has {k} g (below {i = i} a r, h) =
      own_or_below g.few (shaped g)
      ∙ or_intro_right (holds_variable (row_at s k)) (one_in (book s) i (children_of (row_at s k)) a (stray_has (child_good g a) (r, h)))

  -- there is one such row at most
  pub one_stray : {k p q : ℕ} → StrayIs s k p → StrayIs s k q → p ≡ q
  one_stray {k} {p} {q} a b =
      ⊎_elim (λ lt. absurd (b.lowest p lt a.reached a.holds))
      (λ h. ⊎_elim (λ e. e) (λ lt. absurd (a.lowest q lt b.reached b.holds)) h)
      (trichotomy p q)

  -- the lowest that the definition finds is it
  pub stray_row_lem : {k p : ℕ} → GoodRow s k → StrayIs s k p → stray_row s k ≡ p
  unfolding stray_row rows_of
  stray_row_lem {k} {p} g h =
      lowest_is _ (book_rows s) 0 p (omega arith) (omega (arith, h.inside))
      (and_intro ((among_is p (rows_within s (book_rows s) k)).1 (reached_rows (book_rows s) g g.inside h.reached)) ((holds_is _).1 h.holds))
      (λ q from lt. never_true _ (λ e. let w = and_true (is_among q (rows_within s (book_rows s) k)) _ e in h.lowest q lt (rows_reached (book_rows s) k q ((among_is q _).0 w.0)) ((holds_is _).0 w.1)))

  pub stray_found : {k : ℕ} → GoodRow s k → has data_variable 0 (tree_in (book s) k) ≡ true → StrayIs s k (stray_row s k)
  unfolding stray_row rows_of
  stray_found {k} g e =
      let w = some_stray (k + 1) k (omega arith) g e in
      let inside : w.0 < book_rows s = omega (arith, g.inside, reached_below g w.1.0) in
      let holds = and_intro ((among_is w.0 (rows_within s (book_rows s) k)).1 (reached_rows (book_rows s) g g.inside w.1.0)) ((holds_is _).1 w.1.1) in
      let f = lowest_here (λ j. is_among j (rows_within s (book_rows s) k) && holds_variable (row_at s j)) (book_rows s) w.0 inside holds in
      let here = and_true _ _ f.1 in
      record {
        inside = f.0;
        holds = (holds_is _).0 here.1;
        reached = rows_reached (book_rows s) k (stray_row s k) ((among_is _ _).0 here.0);
        lowest = λ q lt r h. not_both (and_intro ((among_is q (rows_within s (book_rows s) k)).1 (reached_rows (book_rows s) g g.inside r)) ((holds_is _).1 h)) (f.2 q lt);
      }
