-- What a test made of `&&` and `||` says of its parts, and when a test that decides a fact fails. Assumes nothing.
use Prim.Native.Nat.{ℕ, zero, suc, ◌≤◌, ◌<◌}
use mathlib.Core.Path.{◌≡◌, refl, sym, ◌∙◌}
use mathlib.Core.Bool.{Bool, true, false, not, ◌&&◌, ◌||◌, true≢false, false≢true, or_assoc}
use native.Mathlib.Nat.{eq-or-lt_of_le}
use native.Mathlib.Omega.{arith}
use lib.Dec.{eqb, ltb}
use borrow.Author.Tests.{not-true, not-false, ltb-true, ltb-false, lt-ltb, eqb-true, eq-eqb}
use mathlib.Core.Logic.{◌↔◌, ◌⊎◌, inl, inr, ⊎_elim}

pub and_true : (a b : Bool) → a && b ≡ true → (a ≡ true) × (b ≡ true)
and_true true b e = (refl, e)
and_true false b e = absurd (false≢true e)

pub and_intro : {a b : Bool} → a ≡ true → b ≡ true → a && b ≡ true
and_intro e f = rw (e, f)

pub or_true : (a b : Bool) → a || b ≡ true → (a ≡ true) ⊎ (b ≡ true)
or_true true b e = inl refl
or_true false b e = inr e

pub or_false : (a b : Bool) → a || b ≡ false → (a ≡ false) × (b ≡ false)
or_false true b e = absurd (true≢false e)
or_false false b e = (refl, e)

pub or_intro_left : {a : Bool} (b : Bool) → a ≡ true → a || b ≡ true
or_intro_left b e = rw e

pub or_intro_right : (a : Bool) {b : Bool} → b ≡ true → a || b ≡ true
or_intro_right true e = refl
or_intro_right false e = e

-- The answers of a test that returns at the first part that holds.
pub either_first : {r a : Bool} (b : Bool) → r ≡ a → r ≡ true → true ≡ a || b
either_first b e t = sym (or_intro_left b (sym e ∙ t))

pub either_second : {r q a b : Bool} → r ≡ a → r ≡ false → q ≡ b → q ≡ a || b
either_second e f q = rw (sym e ∙ f) q

-- A negated test that holds, and one that does not.
pub fails : {r a : Bool} → r ≡ a → not r ≡ true → a ≡ false
fails {r} e n = sym e ∙ not-true r n

pub holds : {r a : Bool} → r ≡ a → not r ≡ false → a ≡ true
holds {r} e n = sym e ∙ not-false r n

-- The answers of a test that returns at the first part that fails.
pub both_first : {r a : Bool} (b : Bool) → r ≡ a → r ≡ false → false ≡ a && b
both_first b e f = rw (sym e ∙ f)

pub both_second : {r q a b : Bool} → r ≡ a → r ≡ true → q ≡ b → q ≡ a && b
both_second e t q = rw (sym e ∙ t) q

pub not_both : {a : Bool} → a ≡ true → a ≡ false → ⊥
not_both e f = true≢false (sym e ∙ f)

pub never_true : (a : Bool) → (a ≡ true → ⊥) → a ≡ false
never_true true h = absurd (h refl)
never_true false h = refl

pub never_false : (a : Bool) → (a ≡ false → ⊥) → a ≡ true
never_false true h = refl
never_false false h = absurd (h refl)

-- A test that says whether P says by `false` that P does not hold.
pub refutes : {a : Bool} {P : Type 0} → ((a ≡ true) ↔ P) → ((a ≡ false) ↔ (P → ⊥))
refutes {a} h = (λ e x. not_both (h.1 x) e, λ n. never_true a (λ e. n (h.0 e)))

pub not_is : {a : Bool} {P : Type 0} → ((a ≡ true) ↔ P) → ((not a ≡ true) ↔ (P → ⊥))
not_is {a} h = (λ e. (refutes h).0 (not-true a e), λ n. rw ((refutes h).1 n))

-- Tests that say whether P and whether Q holds, joined.
pub or_is : {a b : Bool} {P Q : Type 0} → ((a ≡ true) ↔ P) → ((b ≡ true) ↔ Q) → ((a || b ≡ true) ↔ (P ⊎ Q))
or_is {a} {b} h k = (
  λ e. ⊎_elim (λ x. inl (h.0 x)) (λ y. inr (k.0 y)) (or_true a b e),
  ⊎_elim (λ x. or_intro_left b (h.1 x)) (λ y. or_intro_right a (k.1 y)),
)

pub or_is₃ :
    {a b c : Bool} {P Q R : Type 0} → ((a ≡ true) ↔ P) → ((b ≡ true) ↔ Q) → ((c ≡ true) ↔ R) →
    ((a || b || c ≡ true) ↔ (P ⊎ (Q ⊎ R)))
or_is₃ {a} {b} {c} h k l = rw (or_assoc a b c) (or_is h (or_is k l))

pub and_is : {a b : Bool} {P Q : Type 0} → ((a ≡ true) ↔ P) → ((b ≡ true) ↔ Q) → ((a && b ≡ true) ↔ (P × Q))
and_is {a} {b} h k = (
  λ e. let p = and_true a b e in (h.0 p.0, k.0 p.1),
  λ p. and_intro (h.1 p.0) (k.1 p.1),
)

pub equals_is : (n m : ℕ) → (eqb n m ≡ true) ↔ (n ≡ m)
equals_is n m = (eqb-true n m, eq-eqb n m)

pub below_is : (n m : ℕ) → (ltb n m ≡ true) ↔ (n < m)
below_is n m = (ltb-true n m, lt-ltb n m)

-- For a part that is said by its test.
pub itself_is : (a : Bool) → (a ≡ true) ↔ (a ≡ true)
itself_is a = (λ e. e, λ e. e)

-- Tests for a fault, which find none just if P holds, and Q: a test that says whether P, negated; two of them joined; and what it is that one finds a fault.
pub faultless_not : {a : Bool} {P : Type 0} → ((a ≡ true) ↔ P) → ((not a ≡ false) ↔ P)
faultless_not {a} h = (λ e. h.0 (not-false a e), λ p. rw (h.1 p))

pub faultless_or : {a b : Bool} {P Q : Type 0} → ((a ≡ false) ↔ P) → ((b ≡ false) ↔ Q) → ((a || b ≡ false) ↔ (P × Q))
faultless_or {a} {b} h k = (λ e. let f = or_false a b e in (h.0 f.0, k.0 f.1), λ p. rw (h.1 p.0, k.1 p.1))

pub faulty_is : {a : Bool} {P : Type 0} → ((a ≡ false) ↔ P) → ((a ≡ true) ↔ (P → ⊥))
faulty_is {a} h = (λ e p. not_both e (h.1 p), λ n. never_false a (λ e. n (h.0 e)))

-- Two tests that say whether P give one answer.
pub one_answer : (a : Bool) {b : Bool} {P : Type 0} → ((a ≡ true) ↔ P) → ((b ≡ true) ↔ P) → a ≡ b
one_answer true h k = sym (k.1 (h.0 refl))
one_answer false h k = sym ((refutes k).1 (λ p. false≢true (h.1 p)))

-- A number is lower than another, or it is not. Of two numbers one is lower, or they are equal.
pub below_or_not : (a b : ℕ) → (a < b) ⊎ (b ≤ a)
below_or_not a b = go (ltb a b) refl
  where
    go : (t : Bool) → ltb a b ≡ t → (a < b) ⊎ (b ≤ a)
    go true e = inl (ltb-true a b e)
    go false e = inr (ltb-false a b e)

pub trichotomy : (a b : ℕ) → (a < b) ⊎ ((a ≡ b) ⊎ (b < a))
trichotomy a b = ⊎_elim (λ l. inl l) (λ le. inr (⊎_elim (λ q. inl (sym q)) (λ l. inr l) (eq-or-lt_of_le le))) (below_or_not a b)

-- A number that is none of 0 to n - 1 is n or more, as a match leaves it.
abbrev pub NoneOf : Type 0 → ℕ → ℕ → Type 0
NoneOf A k zero = A
NoneOf A k (suc n) = NoneOf A k n × (k ≡ n → ⊥)

pub past : (A : Type 0) (n k : ℕ) → NoneOf A k n → n ≤ k
past A zero k h = omega arith
past A (suc n) k h = omega (arith, past A n k h.0, h.1)
