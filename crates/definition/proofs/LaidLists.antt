-- Lists laid end to end over the entries of another: list k begins at place b k, where the one before it ends. What a part of the whole holds, and that nothing else holds all these parts. Assumes nothing.
use Prim.Native.Nat.{ℕ, zero, suc, ◌+◌, ◌-◌, ◌≤◌, ◌<◌}
use mathlib.Core.Path.{◌≡◌, sym, ap, ap₂, ◌∙◌}
use mathlib.Core.List.{List, ◌++◌, append_assoc}
use native.Mathlib.Nat.{add-zero}
use native.Mathlib.Omega.{arith}
use lib.ListN.{length, take, drop, length-append, length-drop, take-append-drop}
use lib.Seq.{take-append_seam, drop-append_seam, take-append-add, drop-drop}

-- The lists from k on, `left` of them, and behind them what is left of the list under them.
unfoldable pub laid : {A : Type 0} (f : ℕ → List A) (b : ℕ → ℕ) (under : List A) → (left k : ℕ) → List A
laid f b under zero k = drop (b k) under
laid f b under (suc left) k = f k ++ laid f b under left (k + 1)

module _ {A : Type 0} (f : ℕ → List A) (b : ℕ → ℕ) (under : List A) (next : (k : ℕ) → b (k + 1) ≡ b k + length (f k)) where
  -- where list k begins, and what stands from the next one on
  from_next : (l : List A) (k : ℕ) → drop (length (f k)) (drop (b k) l) ≡ drop (b (k + 1)) l
  from_next l k = drop-drop (length (f k)) (b k) l ∙ ap (λ (n : ℕ). drop n l) (sym (next k))

  behind_first : (left k : ℕ) → drop (length (f k)) (laid f b under (suc left) k) ≡ laid f b under left (k + 1)
  unfolding laid
  behind_first left k = drop-append_seam (f k) (laid f b under left (k + 1))

  -- what stands from list k on
  pub laid_drop : b 0 ≡ 0 → (k left n : ℕ) → k + left ≡ n → drop (b k) (laid f b under n 0) ≡ laid f b under left k
  laid_drop begins zero left n e = let same : n ≡ left = omega arith in rw (begins, same)
  laid_drop begins (suc k) left n e =
      let here = laid_drop begins k (suc left) n (omega arith) in
      let one : suc k ≡ k + 1 = omega arith in
      rw one (sym (from_next (laid f b under n 0) k) ∙ ap (drop (length (f k))) here ∙ behind_first left k)

  -- list k itself
  pub laid_at : b 0 ≡ 0 → (k n : ℕ) → k < n → take (length (f k)) (drop (b k) (laid f b under n 0)) ≡ f k
  unfolding laid
  laid_at begins k n lt = ap (take (length (f k))) (laid_drop begins k (suc (n - (k + 1))) n (omega arith)) ∙ take-append_seam (f k) (laid f b under (n - (k + 1)) (k + 1))

  -- a list that holds each of them at its place, and behind them what was there
  module _ (n : ℕ) (l : List A) (holds : (k : ℕ) → k < n → take (length (f k)) (drop (b k) l) ≡ f k) (rest : drop (b n) l ≡ drop (b n) under) where
    only_from : (left k : ℕ) → k + left ≡ n → drop (b k) l ≡ laid f b under left k
    unfolding laid
    only_from zero k e = let same : k ≡ n = omega arith in rw same rest
    only_from (suc left) k e =
        sym (take-append-drop (length (f k)) (drop (b k) l))
        ∙ ap₂ (λ (x y : List A). x ++ y) (holds k (omega arith)) (from_next l k ∙ only_from left (k + 1) (omega arith))

    pub only_laid : b 0 ≡ 0 → l ≡ laid f b under n 0
    only_laid begins = rw begins at (only_from n 0 (omega arith))

  -- one list more
  b_grows : (left k : ℕ) → b k ≤ b (k + left)
  b_grows zero k = rw (add-zero k) (omega arith)
  b_grows (suc left) k = let on : k + suc left ≡ k + 1 + left = omega arith in rw on (omega (arith, b_grows left (k + 1), next k))

  more_from : (left k : ℕ) → take (b (k + left) - b k) (laid f b under left k) ++ (f (k + left) ++ drop (b (k + left + 1)) under) ≡ laid f b under (suc left) k
  unfolding laid
  more_from zero k = let none : b k - b k ≡ 0 = omega arith in rw (add-zero k, none)
  more_from (suc left) k =
      let on : k + suc left ≡ k + 1 + left = omega arith in
      let far : b (k + 1 + left) - b k ≡ length (f k) + (b (k + 1 + left) - b (k + 1)) = omega (arith, next k, b_grows left (k + 1)) in
      rw (on, far, take-append-add (f k) (laid f b under left (k + 1)) (b (k + 1 + left) - b (k + 1)))
      (append_assoc (f k) _ _ ∙ ap (λ (x : List A). f k ++ x) (more_from left (k + 1)))

  pub laid_more : b 0 ≡ 0 → (k : ℕ) → take (b k) (laid f b under k 0) ++ (f k ++ drop (b (k + 1)) under) ≡ laid f b under (k + 1) 0
  laid_more begins k =
      let one : k + 1 ≡ suc k = omega arith in
      let all : 0 + k ≡ k = omega arith in
      let whole : b k - 0 ≡ b k = omega arith in
      rw (all, begins, whole) at (more_from k 0) ∙ ap (λ (n : ℕ). laid f b under n 0) (sym one)

  -- there are places for all lists; and no entry is added or lost where they were there before
  pub laid_covers : (left k : ℕ) → b (k + left) ≤ b k + length (laid f b under left k)
  unfolding laid
  laid_covers zero k = rw (add-zero k) (omega arith)
  laid_covers (suc left) k =
      let on : k + suc left ≡ k + 1 + left = omega arith in
      rw on (omega (arith, length-append (f k) (laid f b under left (k + 1)), next k, laid_covers left (k + 1)))

  pub laid_long : (left k : ℕ) → b (k + left) ≤ length under → length (laid f b under left k) + b k ≡ length under
  unfolding laid
  laid_long zero k fits = let inside : b k ≤ length under = rw (add-zero k) at fits in omega (arith, length-drop (b k) under)
  laid_long (suc left) k fits =
      let on : k + suc left ≡ k + 1 + left = omega arith in
      omega (arith, length-append (f k) (laid f b under left (k + 1)), next k, laid_long left (k + 1) (rw on at fits))
