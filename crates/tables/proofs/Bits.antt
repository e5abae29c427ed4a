-- A number's binary digits as a set of labels: `|` and `&` act on each digit by itself, and a number that is not 0 has a digit. Assumes nothing.
use Prim.Native.Nat.{ℕ, zero, suc, ◌+◌, ◌-◌, ◌*◌, ◌/◌, ◌%◌, ◌^◌, ◌≤◌, ◌<◌, min, max}
use mathlib.Core.Path.{◌≡◌, refl, sym, ap, ◌∙◌, fun_ext}
use mathlib.Core.Bool.{Bool, true, false, not, ◌&&◌, ◌||◌}
use mathlib.Core.Logic.{◌⊎◌, inl, inr}
use native.Mathlib.Nat.{div-one, pow-suc, one-mul, mod-lt}
use native.Mathlib.Omega.{arith}
use lib.Bits.{bit_and, bit_or, and_le_l, and_le_r}
use lib.Dec.{eqb, ltb}
use lib.Pow.{pow_pos, shl_exact, shr-shr, field, mod-mod-pow}
use borrow.Author.Tests.{ltb-true, ltb-false, ne_eqb, eqb-false, not-true}
use Rattle.definition.specs.02-Ranges.{any, update}
use Rattle.definition.proofs.Tests.{not_both, one_answer}
use Rattle.definition.proofs.RangeLaws.{any_true, any_some}
use Rattle.tables.specs.Sets.{labels_of}
use Rattle.tables.proofs.Assignments.{updated, any_as}
use Rattle.std.specs.Int.{bit_at, bit_not, w32}
use Rattle.std.proofs.lemmas.Nat.Bits.{bit_at-zero, bit_at-lt, bit_at_and, bit_at_or, bit_at_above, bit_at_set_same, bit_at_set_other, bit_at_clear_same, bit_at_clear_other}

-- A digit is 0 or 1.
binary : (x : ℕ) → x < 2 → (x ≡ 0) ⊎ (x ≡ 1)
binary zero h = inl refl
binary (suc zero) h = inr refl
binary (suc (suc x)) h = absurd (omega arith)

-- An operation on two digits that agrees with a test.
digitwise :
    (op : ℕ → ℕ → ℕ) (test : Bool → Bool → Bool) → eqb (op 0 0) 1 ≡ test false false → eqb (op 0 1) 1 ≡ test false true →
    eqb (op 1 0) 1 ≡ test true false → eqb (op 1 1) 1 ≡ test true true → (a b l : ℕ) →
    eqb (op (bit_at a l) (bit_at b l)) 1 ≡ test (labels_of a l) (labels_of b l)
unfolding labels_of
digitwise op test e00 e01 e10 e11 a b l = on (binary _ (bit_at-lt a l)) (binary _ (bit_at-lt b l))
  where
    on :
        {x y : ℕ} → (x ≡ 0) ⊎ (x ≡ 1) → (y ≡ 0) ⊎ (y ≡ 1) → eqb (op x y) 1 ≡ test (eqb x 1) (eqb y 1)
    on (inl p) (inl q) = rw (p, q) e00
    on (inl p) (inr q) = rw (p, q) e01
    on (inr p) (inl q) = rw (p, q) e10
    on (inr p) (inr q) = rw (p, q) e11

or_label : (a b l : ℕ) → labels_of (bit_or a b) l ≡ labels_of a l || labels_of b l
unfolding labels_of
or_label a b l = ap (λ (x : ℕ). eqb x 1) (bit_at_or a b l) ∙ digitwise max (λ x y. x || y) refl refl refl refl a b l

and_label : (a b l : ℕ) → labels_of (bit_and a b) l ≡ labels_of a l && labels_of b l
unfolding labels_of
and_label a b l = ap (λ (x : ℕ). eqb x 1) (bit_at_and a b l) ∙ digitwise min (λ x y. x && y) refl refl refl refl a b l

-- No label.
pub labels_none : labels_of 0 ≡ (λ l. false)
unfolding labels_of
labels_none = fun_ext (λ l. ap (λ (x : ℕ). eqb x 1) (bit_at-zero l))

-- `1 << k`, cut at w bits, is the power.
pub shifted_one : (w k : ℕ) → k < w → 1 * 2 ^ k % 2 ^ w ≡ 2 ^ k
shifted_one w k h = shl_exact {a = 1} 1 k w (omega arith) (omega arith) ∙ one-mul (2 ^ k)

-- The sets that the operations give.
pub labels_both : (a b : ℕ) → labels_of (bit_or a b) ≡ (λ l. labels_of a l || labels_of b l)
labels_both a b = fun_ext (or_label a b)

pub labels_with : (n k : ℕ) → k < 32 → labels_of (bit_or n (1 * 2 ^ k % 2 ^ 32)) ≡ update (labels_of n) k true
unfolding labels_of
labels_with n k h =
    updated _ (labels_of n) k true (ap (λ (x : ℕ). eqb x 1) (bit_at_set_same w32 n k h)) (λ l ne. ap (λ (x : ℕ). eqb x 1) (bit_at_set_other w32 n k h l ne))

pub labels_without : (n k : ℕ) → n < 2 ^ 32 → k < 32 → labels_of (bit_and n (bit_not w32 (1 * 2 ^ k % 2 ^ 32))) ≡ update (labels_of n) k false
unfolding labels_of
labels_without n k low h =
    updated _ (labels_of n) k false (ap (λ (x : ℕ). eqb x 1) (bit_at_clear_same w32 n k h))
    (λ l ne. ap (λ (x : ℕ). eqb x 1) (other l ne (ltb l 32) refl))
  where
    other : (l : ℕ) → (l ≡ k → ⊥) → (b : Bool) → ltb l 32 ≡ b → bit_at (bit_and n (bit_not w32 (1 * 2 ^ k % 2 ^ 32))) l ≡ bit_at n l
    other l ne true e = bit_at_clear_other w32 n k h l (ltb-true l 32 e) ne
    other l ne false e =
        let up : 32 ≤ l = ltb-false l 32 e in
        let le = and_le_l n (bit_not w32 (1 * 2 ^ k % 2 ^ 32)) in
        bit_at_above _ 32 l (omega arith) up ∙ sym (bit_at_above n 32 l low up)

-- A number below 2 ^ w that is not 0 has a label below w.
half_label : (n l : ℕ) → labels_of (n / 2) l ≡ labels_of n (1 + l)
unfolding labels_of
half_label n l = ap (λ (x : ℕ). eqb (x % 2) 1) (shr-shr n 1 l)

some_label : (w n : ℕ) → n < 2 ^ w → (n ≡ 0 → ⊥) → (l : ℕ) × (l < w) × (labels_of n l ≡ true)
unfolding labels_of
some_label zero n h ne = absurd (ne (omega arith))
some_label (suc w) n h ne = let p = pow-suc 2 w in go (binary (n % 2) (omega arith)) (λ e. some_label w (n / 2) (omega arith) (λ z. ne (omega arith)))
  where
    go :
        (n % 2 ≡ 0) ⊎ (n % 2 ≡ 1) → (n % 2 ≡ 0 → (l : ℕ) × (l < w) × (labels_of (n / 2) l ≡ true)) →
        (l : ℕ) × (l < suc w) × (labels_of n l ≡ true)
    go (inr e) rest = (0, omega arith, rw (div-one, e))
    go (inl e) rest = let r = rest e in (1 + r.0, omega arith, sym (half_label n r.0) ∙ r.2)

-- So it is not 0 just if one of the first w labels is in it.
any_label : (w n : ℕ) → n < 2 ^ w → not (eqb n 0) ≡ any (labels_of n) w 0
any_label w n h =
    one_answer (not (eqb n 0))
    (λ e z. eqb-false n 0 (not-true (eqb n 0) e) z, λ ne. rw (ne_eqb n 0 ne)) (
      λ e z. let r = any_true (labels_of n) w 0 e in not_both r.3 (ap (λ (x : ℕ). labels_of x r.0) z ∙ ap (λ (s : ℕ → Bool). s r.0) labels_none),
      λ ne. let r = some_label w n h ne in any_some (labels_of n) w 0 r.0 (omega arith) (omega arith) r.2,
    )

-- The digits below w of n are those of what is left of n by 2 ^ w; so that is not 0 just if one of the first w labels is in n.
low_label : (w n l : ℕ) → l < w → labels_of (n % 2 ^ w) l ≡ labels_of n l
unfolding labels_of
low_label w n l lt =
    let all : w ≡ w - l + l = omega arith in
    let one : w - l ≡ w - l - 1 + 1 = omega arith in
    ap (λ (x : ℕ). eqb (x % 2) 1) (ap (λ (x : ℕ). n % 2 ^ x / 2 ^ l) all ∙ field n (w - l) l)
    ∙ ap (λ (x : ℕ). eqb (n / 2 ^ l % 2 ^ x % 2) 1) one
    ∙ ap (λ (x : ℕ). eqb x 1) (mod-mod-pow (n / 2 ^ l) (w - l - 1) 1)

pub any_below : (w n : ℕ) → not (eqb (n % 2 ^ w) 0) ≡ any (labels_of n) w 0
any_below w n = any_label w (n % 2 ^ w) (mod-lt n (pow_pos w)) ∙ any_as (labels_of (n % 2 ^ w)) (labels_of n) w w (omega arith) (low_label w n) (λ l up lt. absurd (omega arith))

-- Three sets share a label just if `&` of the three is not 0.
pub any_shared :
    (w a b c : ℕ) → c < 2 ^ w → not (eqb (bit_and (bit_and a b) c) 0) ≡ any (λ l. labels_of a l && labels_of b l && labels_of c l) w 0
any_shared w a b c h =
    any_label w (bit_and (bit_and a b) c) (let le = and_le_r (bit_and a b) c in omega arith)
    ∙ ap (λ (s : ℕ → Bool). any s w 0) (fun_ext (λ l. and_label (bit_and a b) c l ∙ rw (and_label a b l)))
