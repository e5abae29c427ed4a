-- Texts written one after the other are one text: a run of stores goes on where the last one ended. Assumes nothing.
use Prim.Native.Nat.{ℕ, suc, ◌+◌, ◌≤◌}
use mathlib.Core.Path.{◌≡◌, refl, sym, ap, ◌∙◌}
use mathlib.Core.List.{List, [], ◌∷◌, ◌++◌}
use native.Mathlib.Omega.{arith}
use lib.ListN.{length, set, length-append}
use lib.Seq.{sets, length-sets}
use Rattle.check_case.specs.Written.{Written}

pub sets_append : (l : List ℕ) (i : ℕ) (xs ys : List ℕ) → sets l i (xs ++ ys) ≡ sets (sets l i xs) (i + length xs) ys
sets_append l i [] ys = ap (λ (k : ℕ). sets l k ys) (omega arith)
sets_append l i (x ∷ xs) ys =
    let e : suc i + length xs ≡ i + suc (length xs) = omega arith in
    sets_append (set l i x) (suc i) xs ys ∙ ap (λ (k : ℕ). sets (sets (set l i x) (suc i) xs) k ys) e

-- Nothing written.
pub nothing : (l : List ℕ) (at : ℕ) → Written l at [] l at
nothing l at = record { is = refl; ends = omega arith }

-- One text, and then another.
pub and_then :
    {l m n : List ℕ} {at k end : ℕ} {s t : List ℕ} → Written l at s m k → Written m k t n end → Written l at (s ++ t) n end
and_then {l} {m} {n} {at} {k} {end} {s} {t} a b =
    record {
      is = b.is ∙ ap (λ (z : List ℕ). sets z k t) a.is ∙ ap (λ (j : ℕ). sets (sets l at s) j t) a.ends ∙ sym (sets_append l at s t);
      ends = simp length-append (omega (arith, a.ends, b.ends));
    }

-- Writing keeps the buffer's length.
pub kept : {l m : List ℕ} {at end : ℕ} {s : List ℕ} → Written l at s m end → length m ≡ length l
kept {l} {m} {at} {end} {s} w = ap length w.is ∙ length-sets l at s

-- Where a text of at most so many bytes leaves room for more, there is that room behind it.
pub room_left :
    {l m : List ℕ} {at end : ℕ} {s : List ℕ} → Written l at s m end → (most more : ℕ) → length s ≤ most → at + most + more ≤ length l →
    end + more ≤ length m
room_left w most more h j = omega (arith, h, j, w.ends, kept w)
