-- `mark_used` meets its contract: `|` sets digit 32, and the others stay. Assumes nothing.
use Prim.Native.Nat.{ℕ, ◌%◌}
use mathlib.Core.Path.{◌≡◌, ap, ◌∙◌}
use mathlib.Core.Bool.{true}
use native.Mathlib.Omega.{arith}
use lib.Bits.{bit_or, or_mod, or_zero_r}
use lib.Dec.{eqb}
use lib.ListN.{get_or, length-set}
use Rattle.std.specs.Int.{w64}
use Rattle.std.proofs.lemmas.Nat.Bits.{bit_at_set_same, bit_at_set_other}
use Rattle.tables.specs.Sets.{labels_of, left_in}
use Rattle.tables.proofs.Assignments.{used_set}
use Rattle.tables.proofs.left.mark_used.Goals as goal

pub returns : goal.returns
unfolding labels_of left_in
returns c = let t = c.args.left.now in
    let k = c.args.k in
    let n = get_or t k 0 in
    let low : bit_or n 4294967296 % 4294967296 ≡ n % 4294967296 = or_mod n 4294967296 32 ∙ or_zero_r (n % 4294967296) in
    let set : labels_of (bit_or n 4294967296) 32 ≡ true = ap (λ (x : ℕ). eqb x 1) (bit_at_set_same w64 n 32 (omega arith)) in
    let next : labels_of (bit_or n 4294967296) 33 ≡ labels_of n 33 = ap (λ (x : ℕ). eqb x 1) (bit_at_set_other w64 n 32 (omega arith) 33 (omega arith)) in
    (length-set t k (bit_or n 4294967296) ∙ c.requires.1, used_set t k (bit_or n 4294967296) (rw c.requires.1 c.requires.0) (λ i. record { opens = labels_of (low i); cites = next i }) set)
