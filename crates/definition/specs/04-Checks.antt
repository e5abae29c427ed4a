-- Checks, and runs of them: a run ends at the first check that fails, with that check's number and place.
use Rattle.std.specs.Prelude.{ℕ, ◌<◌, Bool, true, false, ◌≡◌, List, [], ◌∷◌, ltb}
use Rattle.definition.specs.02-Ranges.{lowest}

pub data Checked (A : Type 0) : Type 0 where
  accepts : A → Checked A
  refuses : (number place : ℕ) → Checked A

-- One run after another. This gives a `do` block its meaning: its lines are run in order.
unfoldable pub ◌>>◌ : {A B : Type 0} → Checked A → Checked B → Checked B
◌>>◌ (accepts a) r = r
◌>>◌ (refuses n p) r = refuses n p

-- A check has a number, and a test that finds a fault: at one place, or at some of the places 0 to `count` - 1.
pub data Check : Type 0 where
  single : (number place : ℕ) (fault : Bool) → Check
  each : (number count : ℕ) (fault : ℕ → Bool) → Check

abbrev pub number_of : Check → ℕ
number_of (single n p fault) = n
number_of (each n count fault) = n

-- Check `number` fails, with this place, where the test finds a fault.
unfoldable pub check : (number place : ℕ) (fault : Bool) → Checked (Unit {0})
check n p true = refuses n p
check n p false = accepts tt

-- One check, "lowest place first".
unfoldable pub try : Check → Checked (Unit {0})
try (single n p fault) = check n p fault
try (each n count fault) = let p = lowest fault count 0 in check n p (ltb p count)

-- The checks of a list, in its order.
unfoldable pub in_order : List Check → Checked (Unit {0})
in_order [] = accepts tt
in_order (c ∷ cs) = do
  try c
  in_order cs

-- The same without a run. A check holds where its test finds no fault.
abbrev pub Holds : Check → Type 0
Holds (single n p fault) = fault ≡ false
Holds (each n count fault) = (k : ℕ) → k < count → fault k ≡ false

-- The place is the lowest of 0 to `count` - 1 at which the test finds a fault.
abbrev pub Lowest : (fault : ℕ → Bool) → (count place : ℕ) → Type 0
Lowest fault count p = (p < count) × (fault p ≡ true) × ((q : ℕ) → q < p → fault q ≡ false)

-- A check fails with its number, at a place where the test finds a fault and at no lower one.
abbrev pub Fails : Check → (number place : ℕ) → Type 0
Fails (single n p fault) m q = (n ≡ m) × (p ≡ q) × (fault ≡ true)
Fails (each n count fault) m q = (n ≡ m) × Lowest fault count q

-- Every check of the list holds.
abbrev pub AllHold : List Check → Type 0
AllHold [] = Unit {0}
AllHold (c ∷ cs) = Holds c × AllHold cs

-- A check of the list fails with this number and place, and all before it hold.
pub data FirstFault : List Check → (number place : ℕ) → Type 0 where
  here : {c : Check} {cs : List Check} {n p : ℕ} → Fails c n p → FirstFault (c ∷ cs) n p
  later : {c : Check} {cs : List Check} {n p : ℕ} → Holds c → FirstFault cs n p → FirstFault (c ∷ cs) n p

-- What an evaluation unfolds of this file.
unfoldable pub evaluated_checks : Unit {0}
unfolding ◌>>◌ check try in_order
evaluated_checks = tt
