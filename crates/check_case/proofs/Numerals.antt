-- A numeral is the numeral of the tens and one digit more, or one digit alone; and it has five digits at most. Assumes nothing.
use Prim.Native.Nat.{ℕ, zero, suc, ◌+◌, ◌-◌, ◌/◌, ◌%◌, ◌^◌, ◌≤◌, ◌<◌}
use mathlib.Core.Path.{◌≡◌, refl, sym, ap, subst, ◌∙◌}
use mathlib.Core.Bool.{Bool, true, false, cond}
use mathlib.Core.List.{[], ◌∷◌, ◌++◌}
use native.Mathlib.Numerals.{unary_clauses}
use native.Mathlib.Omega.{arith}
use native.Mathlib.Nat.{pow-suc}
use lib.ListN.{length, length-append}
use lib.Dec.{ltb}
use borrow.Author.Tests.{lt-ltb}
use Rattle.definition.proofs.TextLaws.{places_fewest, fewest_is_one}
use Rattle.definition.specs.33-Text.{digits, places, numeral}

length_digits : (k n : ℕ) → length (digits k n) ≡ k
unfolding digits
length_digits zero n = refl
length_digits (suc k) n = length-append (digits k (n / 10)) ((48 + n % 10) ∷ []) ∙ omega (arith, length_digits k (n / 10))

-- One digit.
pub numeral_one : (n : ℕ) → n < 10 → numeral n ≡ (48 + n) ∷ []
unfolding numeral digits places
numeral_one n h = let same : n % 10 ≡ n = omega arith in rw (lt-ltb n 10 h, same)

-- The tens have one digit fewer.
places_more : (n : ℕ) → 10 ≤ n → n < 65536 → places n ≡ suc (places (n / 10))
places_more n h j =
    let tens = places_fewest (n / 10) (omega arith) in
    let k = places (n / 10) in
    fewest_is_one (places_fewest n j)
    (record {
      some = omega arith;
      hold = omega (arith, pow-suc 10 k, tens.hold);
      none_less = λ _. simp unary_clauses (go k tens.some tens.none_less);
    })
  where
    go : (k : ℕ) → 1 ≤ k → (1 < k → 10 ^ (k - 1) ≤ n / 10) → 10 ^ k ≤ n
    go zero x most = absurd (omega arith)
    go (suc zero) x most = h
    go (suc (suc k)) x most = let tens = simp unary_clauses at (most (omega arith)) in omega (arith, pow-suc 10 (suc k), tens)

-- More than one digit: those of the tens, and the last.
pub numeral_more : (n : ℕ) → 10 ≤ n → n < 65536 → numeral (n / 10) ++ ((48 + n % 10) ∷ []) ≡ numeral n
unfolding numeral digits
numeral_more n h j = rw (places_more n h j)

cond_most : (b : Bool) (x y most : ℕ) → x ≤ most → y ≤ most → cond b x y ≤ most
cond_most true x y most h j = h
cond_most false x y most h j = j

pub numeral_most : (n : ℕ) → length (numeral n) ≤ 5
unfolding numeral places
numeral_most n =
    subst (λ (k : ℕ). k ≤ 5) (sym (length_digits (places n) n))
    (cond_most (ltb n 10) 1 _ 5 (omega arith)
    (cond_most (ltb n 100) 2 _ 5 (omega arith)
    (cond_most (ltb n 1000) 3 _ 5 (omega arith)
    (cond_most (ltb n 10000) 4 5 5 (omega arith) (omega arith)))))

-- The tens have four digits at most.
pub tens_most : (n : ℕ) → 10 ≤ n → n < 65536 → length (numeral (n / 10)) ≤ 4
tens_most n h j = omega (arith, numeral_most n, ap length (numeral_more n h j), length-append (numeral (n / 10)) ((48 + n % 10) ∷ []))
