-- A numeral has as few digits as hold its number, and only one count of digits is the fewest. Assumes nothing.
use Prim.Native.Nat.{ℕ, zero, suc, ◌+◌, ◌-◌, ◌*◌, ◌^◌, ◌≤◌, ◌<◌}
use mathlib.Core.Path.{◌≡◌, refl, subst}
use mathlib.Core.Bool.{Bool, true, false, cond}
use native.Mathlib.Nat.{pow-suc}
use native.Mathlib.Omega.{arith}
use lib.Dec.{ltb}
use borrow.Author.Tests.{ltb-true, ltb-false}
use Rattle.definition.specs.33-Text.{places, Fewest}

pub places_fewest : (n : ℕ) → n < 65536 → Fewest n (places n)
unfolding places
places_fewest n h = go (ltb n 10) (ltb n 100) (ltb n 1000) (ltb n 10000) refl refl refl refl
  where
    go :
        (a b c d : Bool) → ltb n 10 ≡ a → ltb n 100 ≡ b → ltb n 1000 ≡ c → ltb n 10000 ≡ d →
        Fewest n (cond a 1 (cond b 2 (cond c 3 (cond d 4 5))))
    go true b c d e f g i = record { some = omega arith; hold = omega (arith, ltb-true n 10 e); none_less = λ x. omega (arith, x) }
    go false true c d e f g i = record { some = omega arith; hold = omega (arith, ltb-true n 100 f); none_less = λ x. omega (arith, ltb-false n 10 e) }
    go false false true d e f g i = record { some = omega arith; hold = omega (arith, ltb-true n 1000 g); none_less = λ x. omega (arith, ltb-false n 100 f) }
    go false false false true e f g i = record { some = omega arith; hold = omega (arith, ltb-true n 10000 i); none_less = λ x. omega (arith, ltb-false n 1000 g) }
    go false false false false e f g i = record { some = omega arith; hold = omega (arith, h); none_less = λ x. omega (arith, ltb-false n 10000 i) }

-- A higher power of ten is no smaller.
pow_more : (d j : ℕ) → 10 ^ j ≤ 10 ^ (d + j)
pow_more zero j = let same : j ≡ zero + j = omega arith in subst (λ (k : ℕ). 10 ^ j ≤ 10 ^ k) same (omega arith)
pow_more (suc d) j =
    let more : 10 ^ suc (d + j) ≡ 10 ^ (d + j) * 10 = pow-suc 10 (d + j) in
    let same : suc (d + j) ≡ suc d + j = omega arith in
    subst (λ (k : ℕ). 10 ^ j ≤ 10 ^ k) same (omega (arith, pow_more d j, more))

not_fewer : {n j k : ℕ} → Fewest n j → Fewest n k → j < k → ⊥
not_fewer {n} {j} {k} f g lt =
    let up : 10 ^ j ≤ 10 ^ (k - 1) = subst (λ (m : ℕ). 10 ^ j ≤ 10 ^ m) (omega arith) (pow_more (k - 1 - j) j) in
    omega (arith, up, f.hold, g.none_less (omega (arith, f.some)))

pub fewest_is_one : {n j k : ℕ} → Fewest n j → Fewest n k → j ≡ k
fewest_is_one {n} {j} {k} f g = go (ltb j k) (ltb k j) refl refl
  where
    go : (a b : Bool) → ltb j k ≡ a → ltb k j ≡ b → j ≡ k
    go true b e h = absurd (not_fewer f g (ltb-true j k e))
    go false true e h = absurd (not_fewer g f (ltb-true k j h))
    go false false e h = omega (arith, ltb-false j k e, ltb-false k j h)
