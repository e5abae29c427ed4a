-- A table after an assignment, a table of one value, and tests that need not be asked of all 32 labels. Assumes nothing.
use Prim.Native.Nat.{ℕ, zero, suc, ◌≤◌, ◌<◌}
use mathlib.Core.Path.{◌≡◌, refl, sym, ap, ◌∙◌, fun_ext}
use mathlib.Core.Bool.{Bool, true, false}
use mathlib.Core.List.{List}
use native.Mathlib.Omega.{arith}
use lib.ListN.{length, get_or, set, replicate}
use lib.Seq.{get_or-set_same, get_or-set_other}
use lib.Dec.{eqb}
use borrow.Author.Tests.{eqb-true, eqb-false}
use Rattle.definition.specs.02-Ranges.{any, update}
use Rattle.definition.specs.22-Steps.{Rests, Left, with_rests, with_used}
use Rattle.definition.proofs.Tests.{not_both, one_answer}
use Rattle.definition.proofs.RangeLaws.{any_true, any_some}
use Rattle.tables.specs.Sets.{marks, left_of, left_in, rests_of, used_of}

-- A table that has v at k, and elsewhere what f has.
pub updated : {A : Type 0} (g f : ℕ → A) (k : ℕ) (v : A) → g k ≡ v → ((j : ℕ) → (j ≡ k → ⊥) → g j ≡ f j) → g ≡ update f k v
unfolding update
updated g f k v here other = fun_ext (λ j. go j (eqb j k) refl)
  where
    go : (j : ℕ) (b : Bool) → eqb j k ≡ b → g j ≡ update f k v j
    go j true e = rw (e, eqb-true j k e) here
    go j false e = rw e (other j (eqb-false j k e))

-- An assignment, in a table whose entries are read by f.
set_updates : {A B : Type 0} (f : A → B) (t : List A) (d : A) (k : ℕ) (v : A) → k < length t → (λ j. f (get_or (set t k v) j d)) ≡ update (λ i. f (get_or t i d)) k (f v)
set_updates f t d k v h =
    updated (λ j. f (get_or (set t k v) j d)) (λ i. f (get_or t i d)) k (f v) (ap f (get_or-set_same t k v d h)) (λ j ne. ap f (get_or-set_other t k j v d ne))

pub marks_set : (t : List Bool) (k : ℕ) (v : Bool) → k < length t → marks (set t k v) ≡ update (marks t) k v
unfolding marks
marks_set t k v h = set_updates (λ b. b) t false k v h

update_own : {A : Type 0} (f : ℕ → A) (k : ℕ) → update f k (f k) ≡ f
update_own f k = sym (updated f f k (f k) refl (λ j ne. refl))

-- An entry of the table of what the steps leave behind: of a step that rests on other things, or is used.
module _ (t : List ℕ) (k n : ℕ) (h : k < length t) where
  entry_set : {A : Type 0} (f : Left → A) {v : A} → f (left_of n) ≡ v → (λ j. f (left_in (set t k n) j)) ≡ update (λ j. f (left_in t j)) k v
  unfolding left_in
  entry_set f e = set_updates (λ m. f (left_of m)) t 0 k n h ∙ ap (update (λ j. f (left_in t j)) k) e

  pub rests_set : {r : Rests} → (left_of n).rests ≡ r → (left_of n).used ≡ used_of t k → left_in (set t k n) ≡ with_rests (left_in t) (update (rests_of t) k r)
  rests_set e f = λ i j. record { rests = entry_set (λ v. v.rests) e i j; used = (entry_set (λ v. v.used) f ∙ update_own (used_of t) k) i j }

  pub used_set : (left_of n).rests ≡ rests_of t k → (left_of n).used ≡ true → left_in (set t k n) ≡ with_used (left_in t) (update (used_of t) k true)
  used_set e f = λ i j. record { rests = (entry_set (λ v. v.rests) e ∙ update_own (rests_of t) k) i j; used = entry_set (λ v. v.used) f i j }

-- A table of one value.
pub get_d_replicated : {A : Type 0} (n : ℕ) (x : A) (j : ℕ) → get_or (replicate n x) j x ≡ x
get_d_replicated zero x j = refl
get_d_replicated (suc n) x zero = refl
get_d_replicated (suc n) x (suc j) = get_d_replicated n x j

-- A test of the first m numbers that agrees with one of the first n, and fails at the others.
pub any_as :
    (p q : ℕ → Bool) (m n : ℕ) → n ≤ m → ((l : ℕ) → l < n → p l ≡ q l) → ((l : ℕ) → n ≤ l → l < m → p l ≡ false) →
    any p m 0 ≡ any q n 0
any_as p q m n le same none =
    one_answer (any p m 0) (
      λ e.
          let r = any_true p m 0 e in
          let no : n ≤ r.0 → ⊥ = λ up. not_both r.3 (none r.0 up (omega arith)) in
          let lt : r.0 < n = omega arith in
          any_some q n 0 r.0 (omega arith) (omega arith) (sym (same r.0 lt) ∙ r.3),
      λ e.
          let r = any_true q n 0 e in
          any_some p m 0 r.0 (omega arith) (omega arith) (same r.0 (omega arith) ∙ r.3),
    )
    (λ e. e, λ e. e)
