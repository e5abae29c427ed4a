-- Tests and tables over the numbers from i on, `left` of them. A walk names its rest by a `let`, which is computed only where it is asked for.
use Rattle.std.specs.Prelude.{ℕ, zero, suc, ◌+◌, Bool, true, false, cond, ◌&&◌, ◌||◌, List, [], ◌∷◌, eqb}

-- Does the test hold at one of them?
unfoldable pub any : (ℕ → Bool) → ℕ → ℕ → Bool
any p zero i = false
any p (suc left) i = let rest = any p left (i + 1) in p i || rest

-- Does the test hold at each of them?
unfoldable pub all : (ℕ → Bool) → ℕ → ℕ → Bool
all p zero i = true
all p (suc left) i = let rest = all p left (i + 1) in p i && rest

-- The lowest at which the test holds, or the number behind the last where there is none.
unfoldable pub lowest : (ℕ → Bool) → ℕ → ℕ → ℕ
lowest p zero i = i
lowest p (suc left) i = let rest = lowest p left (i + 1) in cond (p i) i rest

-- Those at which the test holds, ascending.
unfoldable pub members : (ℕ → Bool) → ℕ → ℕ → List ℕ
members p zero i = []
members p (suc left) i = let rest = members p left (i + 1) in cond (p i) (i ∷ rest) rest

-- The table's values at them, in order.
unfoldable pub listed : {A : Type 0} → (ℕ → A) → ℕ → ℕ → List A
listed f zero i = []
listed f (suc left) i = f i ∷ listed f left (i + 1)

-- 1 for a test that holds, else 0.
unfoldable pub bit : Bool → ℕ
bit b = cond b 1 0

-- The sum of the table's values at them.
unfoldable pub total : (ℕ → ℕ) → ℕ → ℕ → ℕ
total f zero i = 0
total f (suc left) i = f i + total f left (i + 1)

-- The table with the value v at k.
unfoldable pub update : {A : Type 0} → (ℕ → A) → ℕ → A → ℕ → A
update f k v j = cond (eqb j k) v (f j)

-- What an evaluation unfolds of this file.
unfoldable pub evaluated_ranges : Unit {0}
unfolding any all lowest members listed bit total update
evaluated_ranges = tt
