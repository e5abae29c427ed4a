-- Laws of a list's windows, `take n (drop o s)`: an entry of the window is one of the list. Assumes nothing.
use Prim.Native.Nat.{ℕ, ◌+◌, ◌≤◌, ◌<◌}
use mathlib.Core.Path.{◌≡◌, ◌∙◌}
use mathlib.Core.List.{List}
use native.Mathlib.Omega.{arith}
use lib.ListN.{length, get_or, take, drop, length-take, length-drop}
use lib.Seq.{get_or-take, get_or-drop}
use Rattle.definition.specs.01-Words.{word}

module _ (s : List ℕ) (n o : ℕ) where
  pub window_at : (i : ℕ) → i < n → get_or (take n (drop o s)) i 0 ≡ get_or s (o + i) 0
  window_at i h = get_or-take n (drop o s) i 0 h ∙ get_or-drop o s i 0

  -- So is a number of two of its bytes.
  pub window_word : (i : ℕ) → i + 1 < n → word (take n (drop o s)) i ≡ word s (o + i)
  unfolding word
  window_word i h = let next : o + (i + 1) ≡ o + i + 1 = omega arith in rw (window_at i (omega arith), window_at (i + 1) h, next)

  pub window_length : o + n ≤ length s → length (take n (drop o s)) ≡ n
  window_length h = simp (length-take, length-drop) (omega arith)
