-- The numbers at which a test holds, listed from the front: those of the first a + b are those of the first a, then those of the next b.
-- So a loop may count and write them as it meets them. Assumes nothing.
use Prim.Native.Nat.{ℕ, zero, suc, ◌+◌, ◌-◌, ◌≤◌, ◌<◌}
use mathlib.Core.Path.{◌≡◌, refl, sym, ap, subst, ◌∙◌}
use mathlib.Core.Bool.{Bool, true, false, cond}
use mathlib.Core.List.{List, [], ◌∷◌, ◌++◌, append-nil, append_assoc}
use native.Mathlib.Nat.{add-zero, zero-add, suc-add}
use native.Mathlib.Numerals.{add-one}
use native.Mathlib.Omega.{arith}
use lib.ListN.{length, get_or, take, drop, set, length-append}
use lib.Seq.{drop-cons, set-append_seam, append_snoc, take_at, drop_at, drop-drop}
use borrow.Rule.Slice.PartMut.{mid_of, put_mid}
use Rattle.std.specs.List.{count_by}
use Rattle.std.proofs.lemmas.List.Sums.{count_by_more_no, count_by_more_yes}
use Rattle.definition.specs.02-Ranges.{members}
use Rattle.words.proofs.LentParts.{lent_part, part_back}
use Rattle.tables.specs.Sets.{marks}

module _ (p : ℕ → Bool) where
  head : (b : Bool) (x : ℕ) (r s : List ℕ) → cond b (x ∷ (r ++ s)) (r ++ s) ≡ cond b (x ∷ r) r ++ s
  head true x r s = refl
  head false x r s = refl

  members_split : (a b i : ℕ) → members p (a + b) i ≡ members p a i ++ members p b (i + a)
  unfolding members
  members_split zero b i = rw (zero-add b, add-zero i)
  members_split (suc a) b i =
      let on : i + suc a ≡ i + 1 + a = omega arith in
      rw (suc-add a b, on, members_split a b (i + 1)) (head (p i) i (members p a (i + 1)) (members p b (i + 1 + a)))

  pub members_hit : (k : ℕ) → p k ≡ true → members p (k + 1) 0 ≡ members p k 0 ++ (k ∷ [])
  unfolding members
  members_hit k e = members_split k 1 0 ∙ rw (zero-add k, e)

  pub members_miss : (k : ℕ) → p k ≡ false → members p (k + 1) 0 ≡ members p k 0
  unfolding members
  members_miss k e = members_split k 1 0 ∙ rw (zero-add k, e) (append-nil (members p k 0))

  pub count_hit : (k : ℕ) → p k ≡ true → length (members p (k + 1) 0) ≡ length (members p k 0) + 1
  count_hit k e = ap length (members_hit k e) ∙ length-append (members p k 0) (k ∷ [])

  pub members_more : (k n : ℕ) → k ≤ n → length (members p k 0) ≤ length (members p n 0)
  members_more k n le =
      let whole : n ≡ k + (n - k) = omega arith in
      let parts = ap length (ap (λ (m : ℕ). members p m 0) whole ∙ members_split k (n - k) 0) in
      let sum = length-append (members p k 0) (members p (n - k) (0 + k)) in
      omega arith

-- How many flags of the first n are set.
pub marked_count : (t : List Bool) (n : ℕ) → n ≤ length t → count_by (λ (b : Bool). b) (take n t) ≡ length (members (marks t) n 0)
unfolding members marks
marked_count t zero le = refl
marked_count t (suc n) le = subst (λ (m : ℕ). count_by (λ (b : Bool). b) (take m t) ≡ length (members (marks t) m 0)) (add-one n) (go (get_or t n false) refl (marked_count t n (omega arith)))
  where
    go : (b : Bool) → get_or t n false ≡ b → count_by (λ (b : Bool). b) (take n t) ≡ length (members (marks t) n 0) → count_by (λ (b : Bool). b) (take (n + 1) t) ≡ length (members (marks t) (n + 1) 0)
    go true e same = count_by_more_yes (λ b. b) t n false (omega arith) e ∙ ap (λ (x : ℕ). x + 1) same ∙ sym (count_hit (marks t) n e)
    go false e same = count_by_more_no (λ b. b) t n false (omega arith) e ∙ same ∙ sym (ap length (members_miss (marks t) n e))

-- A list written over the front of a table, and one entry more.
pub front_more :
    (xs l : List ℕ) (v : ℕ) → length xs < length l →
    set (xs ++ drop (length xs) l) (length xs) v ≡ (xs ++ (v ∷ [])) ++ drop (length (xs ++ (v ∷ []))) l
front_more xs l v lt =
    rw
    (drop-cons l (length xs) 0 lt, set-append_seam xs (get_or l (length xs) 0) (drop (suc (length xs)) l) v, length-append xs (v ∷ []), add-one (length xs))
    (sym (append_snoc xs v (drop (suc (length xs)) l)))

-- Two lists one behind the other: m has xs at its front, and e, which came back for the part of m from d on, has ys at its front.
pub front_two :
    (xs ys l m e : List ℕ) (d : ℕ) → d ≡ length xs → m ≡ xs ++ drop (length xs) l →
    e ≡ ys ++ drop (length ys) (mid_of d (length m - d) m) → put_mid d (length m - d) m e ≡ xs ++ ys ++ drop (d + length ys) l
front_two xs ys l m e d is first second =
    let far : length m ≡ length xs + length (drop (length xs) l) = ap length first ∙ length-append xs (drop (length xs) l) in
    let kept : take d m ≡ xs = ap (take d) first ∙ take_at xs (drop (length xs) l) d (sym is) in
    let rest : drop d m ≡ drop d l =
    ap (drop d) first ∙ drop_at xs (drop (length xs) l) d (sym is) ∙ ap (λ (k : ℕ). drop k l) (sym is) in
    let lent : mid_of d (length m - d) m ≡ drop d l = lent_part d m ∙ rest in
    part_back d m e (omega arith)
    ∙ ap (λ (a : List ℕ). a ++ e) kept
    ∙ ap (λ (a : List ℕ). xs ++ a)
    (second ∙ ap (λ (r : List ℕ). ys ++ drop (length ys) r) lent ∙ ap (λ (r : List ℕ). ys ++ r) (drop-drop (length ys) d l))
    ∙ sym (append_assoc xs ys (drop (d + length ys) l))
