-- The trees of a book row by row, and what check 3 says of a row that is not bad: its tree from its fields, and its children. Assumes nothing.
use Prim.Native.Nat.{ℕ, zero, suc, ◌≤◌, ◌<◌}
use mathlib.Core.Path.{◌≡◌, refl, sym, ap, ◌∙◌}
use mathlib.Core.Bool.{Bool, true, false, not, false≢true, ◌&&◌}
use mathlib.Core.Logic.{⊎_elim}
use mathlib.Core.List.{List, [], ◌∷◌}
use native.Mathlib.Nat.{eq-or-lt_of_le, le_of_suc-le-suc}
use native.Mathlib.Omega.{arith}
use lib.ListN.{length, length-append, get_or-append, get_or-eq_default}
use lib.Seq.{get_or_at}
use lib.Dec.{eqb, ltb, leb}
use borrow.Author.Tests.{ltb-true, ltb-false, leb-true, eqb-true, not-false}
use Rattle.definition.proofs.Tests.{and_true, or_false, not_both}
use Rattle.definition.specs.01-Words.{absent}
use Rattle.definition.specs.12-Terms.{agents, data_objects}
use Rattle.definition.specs.13-Formulas.{Formula, predicate, owns, says, and, for_all, implies, after, communicates, creates, user_action, no_formula, each_use, once, is_policy, is_action, nodes}
use Rattle.definition.specs.14-Book.{Row, row_at, book_rows, sort_of_code, tree_in, tree_of, grow, trees, book, terms_first, in_place, policy_below, action_below, binds_own_sort, agent_and_data, agent_policy_agent, two_policies, sort_and_body, action_and_policy, fit_table, fields_fit, bad_formula}

pub trees_length : (s : List ℕ) (n : ℕ) → length (trees s n) ≡ n
unfolding trees grow
trees_length s zero = refl
trees_length s (suc n) = omega (arith, length-append (trees s n) (tree_of (trees s n) (row_at s n) ∷ []), trees_length s n)

pub tree_below : (s : List ℕ) (n k : ℕ) → k < n → tree_in (trees s n) k ≡ tree_of (trees s k) (row_at s k)
unfolding trees grow tree_in
tree_below s zero k h = absurd (omega arith)
tree_below s (suc n) k h =
    let t = tree_of (trees s n) (row_at s n) in
    ⊎_elim (λ e. rw e (get_or_at (trees s n) t [] no_formula n (trees_length s n)))
    (λ l. get_or-append (trees s n) (t ∷ []) no_formula k (rw trees_length l) ∙ tree_below s n k l)
    (eq-or-lt_of_le (le_of_suc-le-suc h))

-- A lower row has the same tree in the whole book.
pub tree_lower : (s : List ℕ) (k n : ℕ) → k < book_rows s → n < k → tree_in (trees s k) n ≡ tree_in (book s) n
unfolding book
tree_lower s k n inside below = tree_below s k n below ∙ sym (tree_below s (book_rows s) n (omega arith))

-- A number beyond the book names no formula.
pub beyond : (s : List ℕ) (k : ℕ) → book_rows s ≤ k → tree_in (book s) k ≡ no_formula
unfolding book tree_in
beyond s k le = get_or-eq_default (trees s (book_rows s)) no_formula (omega (arith, trees_length s (book_rows s)))

-- So a number whose tree passes a test that no-formula fails is one of the book.
pub number_inside : (s : List ℕ) (k : ℕ) (is : Formula → Bool) → is no_formula ≡ false → is (tree_in (book s) k) ≡ true → k < book_rows s
number_inside s k is none here =
    let within : book_rows s ≤ k → ⊥ = λ le. not_both here (ap is (beyond s k le) ∙ none) in
    omega (arith, within)

-- The formula of number n is one for row k to hold.
pub record Below (is : Formula → Bool) (l : List Formula) (k n : ℕ) : Type 0 where
  pub lower : n < k
  pub fit : is (tree_in l n) ≡ true

-- The shapes of fields that kinds share.
pub record AgentAndData (r : Row) : Type 0 where
  pub code : r.code ≡ 0
  pub agent : in_place agents r.x ≡ true
  pub datum : in_place data_objects r.y ≡ true
  pub rest : r.z ≡ absent

pub record AgentPolicyAgent (l : List Formula) (k : ℕ) (r : Row) : Type 0 where
  pub code : r.code ≡ 0
  pub source : in_place agents r.x ≡ true
  pub body : Below is_policy l k r.y
  pub target : in_place agents r.z ≡ true

-- Two formulas: the first is a policy or an action, the second a policy.
pub record TwoParts (first : Formula → Bool) (l : List Formula) (k : ℕ) (r : Row) : Type 0 where
  pub code : r.code ≡ 0
  pub one : Below first l k r.x
  pub two : Below is_policy l k r.y
  pub rest : r.z ≡ absent

pub record SortAndBody (l : List Formula) (k : ℕ) (r : Row) : Type 0 where
  pub code : r.code ≤ 1
  pub body : Below is_policy l k r.x
  pub second : r.y ≡ absent
  pub rest : r.z ≡ absent
  pub own_sort : binds_own_sort (sort_of_code r.code) (tree_in l r.x) ≡ true

-- Row k of a book with the trees l, by its kind: its fields, and its tree.
pub data Shape (l : List Formula) (k : ℕ) (r : Row) : Type 0 where
  predicate_row : r.kind ≡ 0 → terms_first (r.x ∷ r.y ∷ r.z ∷ []) ≡ true → tree_in l k ≡ predicate r.code r.x r.y r.z → Shape l k r
  owns_row : r.kind ≡ 1 → AgentAndData r → tree_in l k ≡ owns r.x r.y → Shape l k r
  says_row : r.kind ≡ 2 → AgentPolicyAgent l k r → tree_in l k ≡ says r.x (tree_in l r.y) r.z → Shape l k r
  and_row : r.kind ≡ 3 → TwoParts is_policy l k r → tree_in l k ≡ and (tree_in l r.x) (tree_in l r.y) → Shape l k r
  for_all_row : r.kind ≡ 4 → SortAndBody l k r → tree_in l k ≡ for_all (sort_of_code r.code) (tree_in l r.x) → Shape l k r
  implies_row : r.kind ≡ 5 → TwoParts is_policy l k r → tree_in l k ≡ implies (tree_in l r.x) (tree_in l r.y) → Shape l k r
  each_use_row : r.kind ≡ 6 → TwoParts is_action l k r → tree_in l k ≡ after each_use (tree_in l r.x) (tree_in l r.y) → Shape l k r
  once_row : r.kind ≡ 7 → TwoParts is_action l k r → tree_in l k ≡ after once (tree_in l r.x) (tree_in l r.y) → Shape l k r
  communicates_row : r.kind ≡ 8 → AgentPolicyAgent l k r → tree_in l k ≡ communicates r.x (tree_in l r.y) r.z → Shape l k r
  creates_row : r.kind ≡ 9 → AgentAndData r → tree_in l k ≡ creates r.x r.y → Shape l k r
  user_action_row :
      r.kind ≡ 10 → in_place agents r.x ≡ true → terms_first (r.y ∷ r.z ∷ []) ≡ true → tree_in l k ≡ user_action r.code r.x r.y r.z → Shape l k r

-- Four tests joined.
four : (a b c d : Bool) → a && b && c && d ≡ true → (a ≡ true) × (b ≡ true) × (c ≡ true) × (d ≡ true)
four a b c d e =
    let h = and_true (a && b && c) d e in
    let i = and_true (a && b) c h.0 in
    let j = and_true a b i.0 in
    (j.0, j.1, i.1, h.1)

-- What the tests of fields say.
module _ (l : List Formula) (k : ℕ) (r : Row) where
  below : (is : Formula → Bool) (n : ℕ) → ltb n k && is (tree_in l n) ≡ true → Below is l k n
  below is n e =
      let h = and_true (ltb n k) (is (tree_in l n)) e in
      record { lower = ltb-true n k h.0; fit = h.1 }

  agent_and_data_lem : agent_and_data r ≡ true → AgentAndData r
  unfolding agent_and_data
  agent_and_data_lem e =
      let h = four (eqb r.code 0) (in_place agents r.x) (in_place data_objects r.y) (eqb r.z absent) e in
      record { code = eqb-true r.code 0 h.0; agent = h.1; datum = h.2; rest = eqb-true r.z absent h.3 }

  agent_policy_agent_lem : agent_policy_agent l k r ≡ true → AgentPolicyAgent l k r
  unfolding agent_policy_agent policy_below
  agent_policy_agent_lem e =
      let h = four (eqb r.code 0) (in_place agents r.x) (policy_below l k r.y) (in_place agents r.z) e in
      record { code = eqb-true r.code 0 h.0; source = h.1; body = below is_policy r.y h.2; target = h.3 }

  two_parts :
      (first : Formula → Bool) →
      eqb r.code 0 && (ltb r.x k && first (tree_in l r.x)) && policy_below l k r.y && eqb r.z absent ≡ true →
      TwoParts first l k r
  unfolding policy_below
  two_parts first e =
      let h = four (eqb r.code 0) (ltb r.x k && first (tree_in l r.x)) (policy_below l k r.y) (eqb r.z absent) e in
      record {
        code = eqb-true r.code 0 h.0;
        one = below first r.x h.1;
        two = below is_policy r.y h.2;
        rest = eqb-true r.z absent h.3;
      }

  sort_and_body_lem : sort_and_body l k r ≡ true → SortAndBody l k r
  unfolding sort_and_body policy_below
  sort_and_body_lem e =
      let own = binds_own_sort (sort_of_code r.code) (tree_in l r.x) in
      let g = and_true (leb r.code 1 && policy_below l k r.x && eqb r.y absent && eqb r.z absent) own e in
      let h = four (leb r.code 1) (policy_below l k r.x) (eqb r.y absent) (eqb r.z absent) g.0 in
      record {
        code = leb-true r.code 1 h.0;
        body = below is_policy r.x h.1;
        second = eqb-true r.y absent h.2;
        rest = eqb-true r.z absent h.3;
        own_sort = g.1;
      }

-- A row whose fields fit, by its kind; its tree is made over the trees m, which agree with l below k.
module _ (m l : List Formula) (k : ℕ) (low : (n : ℕ) → n < k → tree_in m n ≡ tree_in l n) where
  shape_at :
      (kind code x y z : ℕ) → let r : Row = record { kind = kind; code = code; x = x; y = y; z = z } in
      fields_fit l k r ≡ true → tree_in l k ≡ tree_of m r → Shape l k r
  unfolding fields_fit fit_table tree_of two_policies action_and_policy policy_below action_below
  shape_at zero c x y z fit is = predicate_row refl fit is
  shape_at (suc zero) c x y z fit is = owns_row refl (agent_and_data_lem l k _ fit) is
  shape_at (suc (suc zero)) c x y z fit is =
      let h = agent_policy_agent_lem l k _ fit in
      says_row refl h (cc (low y h.body.lower))
  shape_at (suc (suc (suc zero))) c x y z fit is =
      let h = two_parts l k _ is_policy fit in
      and_row refl h (cc (low x h.one.lower, low y h.two.lower))
  shape_at (suc (suc (suc (suc zero)))) c x y z fit is =
      let h = sort_and_body_lem l k _ fit in
      for_all_row refl h (cc (low x h.body.lower))
  shape_at (suc (suc (suc (suc (suc zero))))) c x y z fit is =
      let h = two_parts l k _ is_policy fit in
      implies_row refl h (cc (low x h.one.lower, low y h.two.lower))
  shape_at (suc (suc (suc (suc (suc (suc zero)))))) c x y z fit is =
      let h = two_parts l k _ is_action fit in
      each_use_row refl h (cc (low x h.one.lower, low y h.two.lower))
  shape_at (suc (suc (suc (suc (suc (suc (suc zero))))))) c x y z fit is =
      let h = two_parts l k _ is_action fit in
      once_row refl h (cc (low x h.one.lower, low y h.two.lower))
  shape_at (suc (suc (suc (suc (suc (suc (suc (suc zero)))))))) c x y z fit is =
      let h = agent_policy_agent_lem l k _ fit in
      communicates_row refl h (cc (low y h.body.lower))
  shape_at (suc (suc (suc (suc (suc (suc (suc (suc (suc zero))))))))) c x y z fit is = creates_row refl (agent_and_data_lem l k _ fit) is
  shape_at (suc (suc (suc (suc (suc (suc (suc (suc (suc (suc zero)))))))))) c x y z fit is =
      let h = and_true (in_place agents x) (terms_first (y ∷ z ∷ [])) fit in
      user_action_row refl h.0 h.1 is
  shape_at (suc (suc (suc (suc (suc (suc (suc (suc (suc (suc (suc n))))))))))) c x y z fit is = absurd (false≢true fit)

-- A row whose fields fit, in a book.
pub fit_shape : (s : List ℕ) (k : ℕ) → fields_fit (book s) k (row_at s k) ≡ true → k < book_rows s → Shape (book s) k (row_at s k)
unfolding book
fit_shape s k fit inside =
    let r = row_at s k in
    shape_at (trees s k) (book s) k (λ n. tree_lower s k n inside) r.kind r.code r.x r.y r.z fit
    (tree_below s (book_rows s) k inside)

-- A row that check 3 does not find bad.
module _ (s : List ℕ) (k : ℕ) (good : bad_formula s (book s) k ≡ false) where
  parts : (not (fields_fit (book s) k (row_at s k)) ≡ false) × (ltb 64 (nodes (tree_in (book s) k)) ≡ false)
  unfolding bad_formula
  parts = or_false (not (fields_fit (book s) k (row_at s k))) (ltb 64 (nodes (tree_in (book s) k))) good

  pub row_small : nodes (tree_in (book s) k) ≤ 64
  row_small = ltb-false 64 (nodes (tree_in (book s) k)) parts.1

  pub row_shape : k < book_rows s → Shape (book s) k (row_at s k)
  row_shape = fit_shape s k (not-false (fields_fit (book s) k (row_at s k)) parts.0)
