-- In a book that passes checks 3 and 4 no formula has two numbers: a row's fields can be read off its tree, and no two rows have the same fields. Assumes nothing.
use Prim.Native.Nat.{ℕ, zero, suc, ◌≤◌, ◌<◌}
use mathlib.Core.Path.{◌≡◌, refl, sym, ap}
use mathlib.Core.Bool.{true, false}
use mathlib.Core.List.{List}
use native.Mathlib.Omega.{arith}
use lib.Dec.{eqb}
use borrow.Author.Tests.{eq-eqb}
use Rattle.definition.proofs.RangeLaws.{any_some}
use Rattle.definition.proofs.Tests.{and_intro, not_both}
use Rattle.definition.proofs.Trees.{Shape, predicate_row, owns_row, says_row, and_row, for_all_row, implies_row, each_use_row, once_row, communicates_row, creates_row, user_action_row, row_shape}
use Rattle.definition.specs.01-Words.{absent}
use Rattle.definition.specs.12-Terms.{Sort, agents, data_objects}
use Rattle.definition.specs.13-Formulas.{Formula, predicate, owns, says, and, for_all, implies, after, communicates, creates, user_action, no_formula, kind_of}
use Rattle.definition.specs.14-Book.{Row, row_at, book_rows, sort_of_code, tree_in, book, bad_formula, same_row, repeats_lower}

-- What a field stands for: itself, or the formula of that number.
pub data Part : Type 0 where
  number : ℕ → Part
  formula : Formula → Part

-- What stands in a formula's row behind its kind.
pub record Fields : Type 0 where
  pub code : ℕ
  pub x : Part
  pub y : Part
  pub z : ℕ

pub code_of : Sort → ℕ
code_of agents = 0
code_of data_objects = 1

unfoldable pub fields_of : Formula → Fields
fields_of (predicate c x y z) = record { code = c; x = number x; y = number y; z = z }
fields_of (owns x y) = record { code = 0; x = number x; y = number y; z = absent }
fields_of (says x f z) = record { code = 0; x = number x; y = formula f; z = z }
fields_of (and f g) = record { code = 0; x = formula f; y = formula g; z = absent }
fields_of (for_all σ f) = record { code = code_of σ; x = formula f; y = number absent; z = absent }
fields_of (implies f g) = record { code = 0; x = formula f; y = formula g; z = absent }
fields_of (after m a f) = record { code = 0; x = formula a; y = formula f; z = absent }
fields_of (communicates x f z) = record { code = 0; x = number x; y = formula f; z = z }
fields_of (creates x y) = record { code = 0; x = number x; y = number y; z = absent }
fields_of (user_action c x y z) = record { code = c; x = number x; y = number y; z = z }
fields_of no_formula = record { code = 0; x = number 0; y = number 0; z = 0 }

-- The number n, in row k over the trees l, stands for the part.
abbrev pub StandsFor : List Formula → ℕ → ℕ → Part → Type 0
StandsFor l k n (number m) = n ≡ m
StandsFor l k n (formula f) = (n < k) × (tree_in l n ≡ f)

-- The row, as row k over the trees l, has the formula's kind and fields.
pub record Has (l : List Formula) (k : ℕ) (r : Row) (f : Formula) : Type 0 where
  pub kind : r.kind ≡ kind_of f
  pub code : r.code ≡ (fields_of f).code
  pub x : StandsFor l k r.x (fields_of f).x
  pub y : StandsFor l k r.y (fields_of f).y
  pub z : r.z ≡ (fields_of f).z

code_of_lem : (c : ℕ) → c ≤ 1 → c ≡ code_of (sort_of_code c)
unfolding code_of sort_of_code
code_of_lem zero h = refl
code_of_lem (suc zero) h = refl
code_of_lem (suc (suc c)) h = absurd (omega arith)

pub fields : {l : List Formula} {k : ℕ} {r : Row} → Shape l k r → Has l k r (tree_in l k)
unfolding fields_of
fields (predicate_row e h is) = rw is (record { kind = e; code = refl; x = refl; y = refl; z = refl })
fields (owns_row e h is) = rw is (record { kind = e; code = h.code; x = refl; y = refl; z = h.rest })
fields (says_row e h is) = rw is (record { kind = e; code = h.code; x = refl; y = (h.body.lower, refl); z = refl })
fields (and_row e h is) = rw is (record { kind = e; code = h.code; x = (h.one.lower, refl); y = (h.two.lower, refl); z = h.rest })
fields {r} (for_all_row e h is) =
    rw is (record { kind = e; code = code_of_lem r.code h.code; x = (h.body.lower, refl); y = h.second; z = h.rest })
fields (implies_row e h is) = rw is (record { kind = e; code = h.code; x = (h.one.lower, refl); y = (h.two.lower, refl); z = h.rest })
fields (each_use_row e h is) = rw is (record { kind = e; code = h.code; x = (h.one.lower, refl); y = (h.two.lower, refl); z = h.rest })
fields (once_row e h is) = rw is (record { kind = e; code = h.code; x = (h.one.lower, refl); y = (h.two.lower, refl); z = h.rest })
fields (communicates_row e h is) = rw is (record { kind = e; code = h.code; x = refl; y = (h.body.lower, refl); z = refl })
fields (creates_row e h is) = rw is (record { kind = e; code = h.code; x = refl; y = refl; z = h.rest })
fields (user_action_row e h i is) = rw is (record { kind = e; code = refl; x = refl; y = refl; z = refl })

-- Two fields that stand for one part are equal, where lower rows with one tree are.
one_part :
    (l : List Formula) (j k a b : ℕ) (p : Part) → ((m n : ℕ) → m < j → n < k → tree_in l m ≡ tree_in l n → m ≡ n) →
    StandsFor l j a p → StandsFor l k b p → a ≡ b
one_part l j k a b (number m) low h i = cc
one_part l j k a b (formula f) low h i = low a b h.0 i.0 cc

pub one_row :
    (l : List Formula) (j k : ℕ) (q r : Row) (f : Formula) → ((m n : ℕ) → m < j → n < k → tree_in l m ≡ tree_in l n → m ≡ n) →
    Has l j q f → Has l k r f → q ≡ r
one_row l j k q r f low h i =
    let kind : q.kind ≡ r.kind = cc in
    let code : q.code ≡ r.code = cc in
    let x = one_part l j k q.x r.x (fields_of f).x low h.x i.x in
    let y = one_part l j k q.y r.y (fields_of f).y low h.y i.y in
    let z : q.z ≡ r.z = cc in
    λ d. record { kind = kind d; code = code d; x = x d; y = y d; z = z d }

pub same_row_lem : (q r : Row) → q ≡ r → same_row q r ≡ true
unfolding same_row
same_row_lem q r e =
    let at : (f : Row → ℕ) → eqb (f q) (f r) ≡ true = λ f. eq-eqb (f q) (f r) (ap f e) in
    and_intro (and_intro (and_intro (and_intro (at (λ t. t.kind)) (at (λ t. t.code))) (at (λ t. t.x))) (at (λ t. t.y))) (at (λ t. t.z))

module _ (s : List ℕ) (good : (k : ℕ) → k < book_rows s → bad_formula s (book s) k ≡ false) (once : (k : ℕ) → k < book_rows s → repeats_lower s k ≡ false) where
  -- A lower row has other fields.
  not_lower : (j k : ℕ) → k < book_rows s → row_at s j ≡ row_at s k → j < k → ⊥
  unfolding repeats_lower
  not_lower j k inside e below =
      not_both
      (any_some (λ i. same_row (row_at s i) (row_at s k)) k 0 j (omega arith) (omega arith) (same_row_lem (row_at s j) (row_at s k) e))
      (once k inside)

  -- By induction on a bound of j: children are lower.
  numbers : (bound j k : ℕ) → j < bound → j < book_rows s → k < book_rows s → tree_in (book s) j ≡ tree_in (book s) k → j ≡ k
  numbers zero j k below j_in k_in e = absurd (omega arith)
  numbers (suc bound) j k below j_in k_in e =
      let row : row_at s j ≡ row_at s k =
      one_row (book s) j k (row_at s j) (row_at s k) (tree_in (book s) j)
      (λ m n m_low n_low. numbers bound m n (omega arith) (omega arith) (omega arith))
      (fields (row_shape s j (good j j_in) j_in))
      (rw e (fields (row_shape s k (good k k_in) k_in))) in
      omega (arith, not_lower j k k_in row, not_lower k j j_in (sym row))

  pub one_number : (j k : ℕ) → j < book_rows s → k < book_rows s → tree_in (book s) j ≡ tree_in (book s) k → j ≡ k
  one_number j k j_in = numbers (suc j) j k (omega arith) j_in
