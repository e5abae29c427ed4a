-- What stands in a formula, and in which rows of its book, said without tests. Which fields of a row are rows is `children_of` of `14-Book`.
use Rattle.std.specs.Prelude.{ℕ, ◌+◌, ◌≤◌, ◌<◌, ◌≡◌, false, ◌⊎◌, List}
use Rattle.definition.specs.03-Lists.{Among}
use Rattle.definition.specs.12-Terms.{Sort, data_objects, class_of, object, parameter, variable}
use Rattle.definition.specs.13-Formulas.{Formula, predicate, owns, says, and, for_all, implies, after, communicates, creates, user_action, no_formula}
use Rattle.definition.specs.14-Book.{Row, row_at, book_rows, book, bad_formula, children_of}

-- Some term of the formula has the property P; P is told how many for-alls stand around the term, d of them around the formula itself.
abbrev pub Somewhere : (P : ℕ → ℕ → Type 0) → ℕ → Formula → Type 0
Somewhere P d (predicate c x y z) = P d x ⊎ (P d y ⊎ P d z)
Somewhere P d (owns x y) = P d x ⊎ P d y
Somewhere P d (says x f z) = P d x ⊎ (P d z ⊎ Somewhere P d f)
Somewhere P d (and f g) = Somewhere P d f ⊎ Somewhere P d g
Somewhere P d (for_all σ f) = Somewhere P (d + 1) f
Somewhere P d (implies f g) = Somewhere P d f ⊎ Somewhere P d g
Somewhere P d (after m a f) = Somewhere P d a ⊎ Somewhere P d f
Somewhere P d (communicates x f z) = P d x ⊎ (P d z ⊎ Somewhere P d f)
Somewhere P d (creates x y) = P d x ⊎ P d y
Somewhere P d (user_action c x y z) = P d x ⊎ (P d y ⊎ P d z)
Somewhere P d no_formula = ⊥

-- The term t stands in the formula.
abbrev pub Mentions : ℕ → Formula → Type 0
Mentions t f = Somewhere (λ d u. u ≡ t) 0 f

-- "Closed: no free variable." A variable is free under d for-alls if its number is d or more.
abbrev pub FreeVariable : ℕ → ℕ → Type 0
FreeVariable d t = (σ : Sort) × (n : ℕ) × (class_of t ≡ variable σ n) × (d ≤ n)

abbrev pub Closed : Formula → Type 0
Closed f = Somewhere FreeVariable 0 f → ⊥

-- The term is a data variable, bound or free; one stands in the formula.
abbrev pub DataVariable : ℕ → Type 0
DataVariable t = (n : ℕ) × (class_of t ≡ variable data_objects n)

abbrev pub MentionsDataVariable : Formula → Type 0
MentionsDataVariable f = Somewhere (λ d t. DataVariable t) 0 f

-- An object or a parameter of the sort.
abbrev pub Instance : Sort → ℕ → Type 0
Instance σ t = (class_of t ≡ object σ) ⊎ (class_of t ≡ parameter σ)

abbrev pub Policy : Formula → Type 0
Policy (predicate c x y z) = Unit {0}
Policy (owns x y) = Unit {0}
Policy (says x f z) = Unit {0}
Policy (and f g) = Unit {0}
Policy (for_all σ f) = Unit {0}
Policy (implies f g) = Unit {0}
Policy (after m a f) = Unit {0}
Policy (communicates x f z) = ⊥
Policy (creates x y) = ⊥
Policy (user_action c x y z) = ⊥
Policy no_formula = ⊥

-- Row k is one of a book of at most 1,024, and no row up to it is bad.
pub record GoodRow (s : List ℕ) (k : ℕ) : Type 0 where
  pub good : (j : ℕ) → j ≤ k → bad_formula s (book s) j ≡ false
  pub inside : k < book_rows s
  pub few : k < 1024

-- Row j is reached from row k of the book s: it is row k, or it is reached from a lower row that row k holds.
pub data Reaches (s : List ℕ) : (k j : ℕ) → Type 0 where
  itself : {k : ℕ} → Reaches s k k
  below : {k i j : ℕ} → Among i (children_of (row_at s k)) → Reaches s i j → Reaches s k j

-- The row itself holds a data variable, in one of its fields.
abbrev pub Holds : Row → Type 0
Holds r = DataVariable r.x ⊎ (DataVariable r.y ⊎ DataVariable r.z)

-- Row q is reached from row k, and itself holds one.
abbrev pub Stray : List ℕ → (k q : ℕ) → Type 0
Stray s k q = Reaches s k q × Holds (row_at s q)

-- Row p is the lowest of these.
pub record StrayIs (s : List ℕ) (k p : ℕ) : Type 0 where
  pub inside : p < book_rows s
  pub holds : Holds (row_at s p)
  pub reached : Reaches s k p
  pub lowest : (q : ℕ) → q < p → Reaches s k q → Holds (row_at s q) → ⊥
