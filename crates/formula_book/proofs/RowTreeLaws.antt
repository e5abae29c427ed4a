-- Laws of the trees in which repeated rows are looked for, and of `repeats_lower`. A store at a free slot lies on no way that was there before.
-- Assumes nothing.
use Prim.Native.Nat.{ℕ, zero, suc, ◌+◌, ◌*◌, ◌-◌, ◌/◌, ◌≤◌, ◌<◌}
use mathlib.Core.Path.{◌≡◌, refl, sym, ap, ◌∙◌}
use mathlib.Core.Bool.{Bool, true, false}
use mathlib.Core.List.{List}
use mathlib.Core.Logic.{⊎_elim}
use native.Mathlib.Nat.{eq-or-lt_of_le}
use native.Mathlib.Omega.{arith}
use lib.ListN.{length, get_or, set, replicate, length-set}
use lib.Dec.{eqb}
use borrow.Author.Tests.{eqb-true, eqb-false}
use lib.Seq.{get_or-set_same, get_or-set_other}
use Rattle.definition.proofs.Tests.{not_both, never_true}
use Rattle.definition.proofs.RangeLaws.{any_some, any_none}
use Rattle.definition.specs.14-Book.{Row, row_at, same_row, repeats_lower}
use Rattle.formula_book.specs.RowTrees.{bucket_of, key_of, branch, Leads, there, onward, Found, Linked, FreeSlot}
use Rattle.formula_rows.proofs.RowEquality.{same_equal}

module _ (s : List ℕ) (k : ℕ) where
  pub repeats : (j : ℕ) → j < k → same_row (row_at s j) (row_at s k) ≡ true → repeats_lower s k ≡ true
  unfolding repeats_lower
  repeats j lt e = any_some (λ i. same_row (row_at s i) (row_at s k)) k 0 j (omega arith) (omega arith) e

  pub repeats_none : ((j : ℕ) → j < k → same_row (row_at s j) (row_at s k) ≡ true → ⊥) → repeats_lower s k ≡ false
  unfolding repeats_lower
  repeats_none none =
      any_none (λ i. same_row (row_at s i) (row_at s k)) k 0 (λ j from to. never_true _ (none j (omega arith)))

-- What a test of two rows that were read says of the rows of the book.
pub met : (s : List ℕ) (j k : ℕ) (b : Bool) (q r : Row) → b ≡ same_row q r → q ≡ row_at s j → r ≡ row_at s k → b ≡ same_row (row_at s j) (row_at s k)
met s j k b q r is first second = cc

-- Behind a free slot nothing is found.
pub found_none : {links : List ℕ} {j slot rest : ℕ} → get_or links slot 0 ≡ 0 → Found links j slot rest → ⊥
found_none {links} {j} {slot} {rest} free f = go f.way
  where
    go : Leads links f.to slot rest → ⊥
    go (there e) = omega (arith, rw (← e) at f.is)
    go (onward lt on) = omega arith

-- What is found from a slot and does not stand in it is found from the branch that the key tells.
pub found_rest :
    {links : List ℕ} {j slot rest : ℕ} → (get_or links slot 0 ≡ j + 1 → ⊥) → Found links j slot rest →
    Found links j (branch (get_or links slot 0) rest) (rest / 2)
found_rest {links} {j} {slot} {rest} other f = go f.way
  where
    go : Leads links f.to slot rest → Found links j (branch (get_or links slot 0) rest) (rest / 2)
    go (there e) = absurd (other (rw (← e) at f.is))
    go (onward lt on) = record { to = f.to; way = on; is = f.is }

-- A store at a free slot leaves each way as it is, and what is found by it.
module _ (links : List ℕ) (at v : ℕ) (free : get_or links at 0 ≡ 0) where
  other : (i : ℕ) → 0 < get_or links i 0 → get_or (set links at v) i 0 ≡ get_or links i 0
  other i lt = get_or-set_other links at i v 0 (λ e. absurd (omega (arith, ap (λ j. get_or links j 0) e)))

  leads_set : {to slot rest : ℕ} → Leads links to slot rest → Leads (set links at v) to slot rest
  leads_set (there e) = there e
  leads_set {to} {slot} {rest} (onward lt on) =
      onward {slot = slot} {rest = rest} (rw (other slot lt) lt) (rw (other slot lt) (leads_set on))

  found_set : {j slot rest : ℕ} → Found links j slot rest → Found (set links at v) j slot rest
  found_set f = record { to = f.to; way = leads_set f.way; is = other f.to (omega (arith, f.is)) ∙ f.is }

zeros_at : (n i : ℕ) → ◌≡◌ {A = ℕ} (get_or (replicate n 0) i 0) 0
zeros_at zero i = refl
zeros_at (suc n) zero = refl
zeros_at (suc n) (suc i) = zeros_at n i

-- The empty table, before the first row.
pub linked_none : (s : List ℕ) → Linked s (replicate 3072 0) 0
linked_none s =
    record {
      size = refl;
      low = λ i. omega (arith, zeros_at 3072 i);
      rises = λ i lt. absurd (omega (arith, zeros_at 3072 i));
      stands = λ j lt. absurd (omega arith);
    }

module _ (s links : List ℕ) (k slot : ℕ) (l : Linked s links k) (few : k < 1024) (f : FreeSlot s links k slot) where
  inside : slot < length links
  inside = omega (arith, l.size, f.below)

  -- What holds of an entry of the new table: it is an old one, or it is row k's own.
  entry : (P : ℕ → ℕ → Type 0) → ((i : ℕ) → P i (get_or links i 0)) → P slot (k + 1) → (i : ℕ) → P i (get_or (set links slot (k + 1)) i 0)
  entry P old own i = go (eqb i slot) refl
    where
      go : (b : Bool) → eqb i slot ≡ b → P i (get_or (set links slot (k + 1)) i 0)
      go true e = rw (eqb-true i slot e, get_or-set_same links slot (k + 1) 0 inside) own
      go false e = rw (get_or-set_other links slot i (k + 1) 0 (eqb-false i slot e)) (old i)

  -- Row k is put where its way ends.
  pub linked_more : Linked s (set links slot (k + 1)) (k + 1)
  linked_more =
      record {
        size = length-set links slot (k + 1) ∙ l.size;
        low = entry (λ i v. v ≤ k + 1) (λ i. omega (arith, l.low i)) (omega arith);
        rises = entry (λ i v. 0 < v → i < 1022 + 2 * v) l.rises (λ lt. omega (arith, f.below));
        stands = λ j lt. ⊎_elim (λ q. own j q) (λ lower. found_set links slot (k + 1) f.free (l.stands j lower)) (eq-or-lt_of_le (omega arith));
      }
    where
      own : (j : ℕ) → j ≡ k → Found (set links slot (k + 1)) j (bucket_of (row_at s j)) (key_of (row_at s j))
      own j q =
          rw q
          (record {
            to = slot;
            way = leads_set links slot (k + 1) f.free f.way;
            is = get_or-set_same links slot (k + 1) 0 inside;
          })

-- The walk of row k: what is left to be walked from a slot with a rest of the key.
pub record Ahead (s links : List ℕ) (k slot rest : ℕ) : Type 0 where
  pub within : slot < 1024 + 2 * k
  pub back : {to : ℕ} → Leads links to slot rest → Leads links to (bucket_of (row_at s k)) (key_of (row_at s k))
  pub whole : (j : ℕ) → j < k → same_row (row_at s j) (row_at s k) ≡ true → Found links j slot rest

module _ (s links : List ℕ) (k : ℕ) (l : Linked s links k) where
  pub ahead_all : (r : Row) (b rest : ℕ) → r ≡ row_at s k → b ≡ bucket_of r → b < 1021 → rest ≡ key_of r → Ahead s links k b rest
  ahead_all r b rest row is below e =
      let at : b ≡ bucket_of (row_at s k) = is ∙ ap bucket_of row in
      let by : rest ≡ key_of (row_at s k) = e ∙ ap key_of row in
      record {
        within = omega arith;
        back = λ way. rw (at, by) at way;
        whole = λ j lt same.
            let q : row_at s j ≡ row_at s k = same_equal _ _ same in
            let first : bucket_of (row_at s j) ≡ b = ap bucket_of q ∙ sym at in
            let bits : key_of (row_at s j) ≡ rest = ap key_of q ∙ sym by in
            rw (first, bits) at (l.stands j lt);
      }

  module _ (slot rest : ℕ) (a : Ahead s links k slot rest) where
    -- The row at the slot is not the same as row k: on to the branch.
    pub ahead_more :
        (b : Bool) → b ≡ same_row (row_at s (get_or links slot 0 - 1)) (row_at s k) → b ≡ false → 0 < get_or links slot 0 →
        Ahead s links k (branch (get_or links slot 0) rest) (rest / 2)
    ahead_more b is differs lt =
        record {
          within = omega (arith, l.low slot);
          back = λ way. a.back (onward lt way);
          whole = λ j lower same. found_rest (λ q. let e : get_or links slot 0 - 1 ≡ j = omega arith in not_both (rw e at is ∙ same) differs) (a.whole j lower same);
        }

    -- The slot is free: row k repeats no lower row, and the slot is its own.
    pub ahead_none : get_or links slot 0 ≡ 0 → FreeSlot s links k slot
    ahead_none free =
        record {
          new = repeats_none s k (λ j lt same. found_none free (a.whole j lt same));
          free = free;
          below = a.within;
          way = a.back (there refl);
        }
