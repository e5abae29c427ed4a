-- `set_rests` meets its contract: the digits below 32 are those of the labels, digit 33 is that of the citing, and digit 32 stays. Assumes nothing.
use Prim.Native.Nat.{ℕ, ◌+◌, ◌*◌, ◌/◌, ◌%◌, ◌<◌}
use mathlib.Core.List.{List}
use mathlib.Core.Path.{◌≡◌, refl, ap, ◌∙◌}
use native.Mathlib.Omega.{arith}
use lib.Dec.{eqb}
use mir.Val.{bool_byte}
use mathlib.Core.Bool.{Bool, true, false}
use lib.ListN.{length, get_or, set, length-set}
use Rattle.definition.specs.02-Ranges.{update}
use Rattle.definition.specs.22-Steps.{Rests, with_rests}
use Rattle.tables.specs.Sets.{labels_of, left_in, rests_of}
use Rattle.tables.proofs.Assignments.{rests_set}
use Rattle.tables.proofs.left.set_rests.Goals as goal

odd : (x u c : ℕ) → x ≡ u + 2 * c → u < 2 → x % 2 ≡ u
odd x u c e lt = omega arith

top : (n u c l : ℕ) → n ≡ (u + 2 * c) * 4294967296 + l → u < 2 → l < 4294967296 → n / 8589934592 ≡ c + 2 * 0
top n u c l e lt low = omega arith

-- An entry with these labels, and these two digits above them.

module _ (t : List ℕ) (k l above used cites : ℕ) (is : above ≡ used + 2 * cites) (long : length t ≡ 2048) (lt : k < 2048) (bits : l < 4294967296) (same : used ≡ get_or t k 0 / 4294967296 % 2) (flag : cites < 2) where
  entered :
      {r : Rests} → (record { opens = labels_of l; cites = eqb cites 1 }) ≡ r →
      let n = above * 4294967296 % 18446744073709551616 + l in
      (length (set t k n) ≡ 2048) × (left_in (set t k n) ≡ with_rests (left_in t) (update (rests_of t) k r))
  unfolding left_in
  entered e =
      let n = above * 4294967296 % 18446744073709551616 + l in
      let small : used < 2 = omega (arith, same) in
      let whole : n ≡ (used + 2 * cites) * 4294967296 + l = omega arith in
      let low : n % 4294967296 ≡ l = omega arith in
      let up : n / 4294967296 ≡ used + 2 * cites = omega (arith, whole) in
      let mid : n / 4294967296 % 2 ≡ used = odd (n / 4294967296) used cites up small in
      let high : n / 8589934592 % 2 ≡ cites = odd (n / 8589934592) cites 0 (top n used cites l whole small bits) flag in
      (length-set t k n ∙ long, rests_set t k n (rw long lt) ((λ i. record { opens = labels_of (low i); cites = eqb (high i) 1 }) ∙ e) (ap (λ x. eqb x 1) (mid ∙ same)))

digit_small : (b : Bool) → bool_byte b < 2
digit_small true = omega arith
digit_small false = omega arith

digit_told : (b : Bool) → eqb (bool_byte b) 1 ≡ b
digit_told true = refl
digit_told false = refl

pub returns : goal.returns
returns c = let a = c.args in
    let bits : a.rests.opens.bits < 4294967296 = omega arith in
    rw (c.from.ensures, c.from-cites.ensures)
    (entered a.left.now a.k a.rests.opens.bits _ _ (bool_byte a.rests.cites) refl c.requires.1 c.requires.0 bits refl (digit_small a.rests.cites) (λ i. record { opens = labels_of a.rests.opens.bits; cites = digit_told a.rests.cites i }))
