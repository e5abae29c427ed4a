-- What the walks over the numbers from i to i + left - 1 find, in terms of the test p at each of them. Assumes nothing.
use Prim.Native.Nat.{ℕ, zero, suc, ◌+◌, ◌≤◌, ◌<◌}
use mathlib.Core.Path.{◌≡◌, refl, sym, ap, ◌∙◌}
use mathlib.Core.Bool.{Bool, true, false, ◌||◌, false≢true}
use mathlib.Core.Logic.{◌↔◌, inl, inr, ⊎_elim}
use native.Mathlib.Nat.{eq-or-lt_of_le}
use native.Mathlib.Omega.{arith}
use lib.ListN.{length, get_or}
use lib.Dec.{ltb}
use borrow.Author.Tests.{ltb-true, lt-ltb, le-ltb}
use Rattle.definition.proofs.Tests.{and_true, and_intro, or_true, or_intro_left, or_intro_right, not_both, never_true, or_is, one_answer, itself_is}
use Rattle.definition.specs.02-Ranges.{any, all, lowest, members, listed}
use Rattle.definition.specs.03-Lists.{Among, Ascending}

module _ (p : ℕ → Bool) where
  pub any_true : (left i : ℕ) → any p left i ≡ true → (j : ℕ) × (i ≤ j) × (j < i + left) × (p j ≡ true)
  unfolding any
  any_true zero i e = absurd (false≢true e)
  any_true (suc left) i e =
      ⊎_elim (λ h. (i, omega arith, omega arith, h))
      (λ h. let r = any_true left (i + 1) h in (r.0, omega arith, omega arith, r.3))
      (or_true (p i) (any p left (i + 1)) e)

  pub any_some : (left i j : ℕ) → i ≤ j → j < i + left → p j ≡ true → any p left i ≡ true
  unfolding any
  any_some zero i j from to e = absurd (omega arith)
  any_some (suc left) i j from to e =
      ⊎_elim (λ q. or_intro_left (any p left (i + 1)) (rw (← q) at e))
      (λ q. or_intro_right (p i) (any_some left (i + 1) j (omega arith) (omega arith) e))
      (eq-or-lt_of_le from)

  pub any_false : (left i : ℕ) → any p left i ≡ false → (j : ℕ) → i ≤ j → j < i + left → p j ≡ false
  any_false left i e j from to = never_true (p j) (λ h. not_both (any_some left i j from to h) e)

  pub any_none : (left i : ℕ) → ((j : ℕ) → i ≤ j → j < i + left → p j ≡ false) → any p left i ≡ false
  any_none left i none =
      never_true (any p left i) (λ e. let r = any_true left i e in not_both r.3 (none r.0 r.1 r.2))

  pub all_true : (left i : ℕ) → all p left i ≡ true → (j : ℕ) → i ≤ j → j < i + left → p j ≡ true
  unfolding all
  all_true zero i e j from to = absurd (omega arith)
  all_true (suc left) i e j from to =
      let h = and_true (p i) (all p left (i + 1)) e in
      ⊎_elim (λ q. rw (← q) h.0) (λ q. all_true left (i + 1) h.1 j (omega arith) (omega arith)) (eq-or-lt_of_le from)

  pub all_each : (left i : ℕ) → ((j : ℕ) → i ≤ j → j < i + left → p j ≡ true) → all p left i ≡ true
  unfolding all
  all_each zero i each = refl
  all_each (suc left) i each =
      and_intro (each i (omega arith) (omega arith))
      (all_each left (i + 1) (λ j from to. each j (omega arith) (omega arith)))

  pub lowest_bound : (left i : ℕ) → (i ≤ lowest p left i) × (lowest p left i ≤ i + left)
  unfolding lowest
  lowest_bound zero i = omega arith
  lowest_bound (suc left) i = go (p i) refl (lowest_bound left (i + 1))
    where
      go :
          (b : Bool) → p i ≡ b → (i + 1 ≤ lowest p left (i + 1)) × (lowest p left (i + 1) ≤ i + 1 + left) →
          (i ≤ lowest p (suc left) i) × (lowest p (suc left) i ≤ i + suc left)
      go true e h = rw e (omega arith)
      go false e h = rw e (omega arith)

  pub lowest_found :
      (left i j : ℕ) → lowest p left i ≡ j → j < i + left → (p j ≡ true) × ((q : ℕ) → i ≤ q → q < j → p q ≡ false)
  unfolding lowest
  lowest_found zero i j e to = absurd (omega arith)
  lowest_found (suc left) i j e to = go (p i) refl (lowest_found left (i + 1) j)
    where
      go :
          (b : Bool) → p i ≡ b →
          (lowest p left (i + 1) ≡ j → j < i + 1 + left → (p j ≡ true) × ((q : ℕ) → i + 1 ≤ q → q < j → p q ≡ false)) →
          (p j ≡ true) × ((q : ℕ) → i ≤ q → q < j → p q ≡ false)
      go true h rest =
          let is : i ≡ j = rw h at e in
          (rw is at h, λ q from below. absurd (omega arith))
      go false h rest =
          let r = rest (rw h at e) (omega arith) in
          (r.0, λ q from below. ⊎_elim (λ is. rw is at h) (λ up. r.1 q (omega arith) below) (eq-or-lt_of_le from))

  -- The number at which the test holds, and below which it fails, is the lowest.
  pub lowest_is : (left i j : ℕ) → i ≤ j → j < i + left → p j ≡ true → ((q : ℕ) → i ≤ q → q < j → p q ≡ false) → lowest p left i ≡ j
  unfolding lowest
  lowest_is zero i j from to e before = absurd (omega arith)
  lowest_is (suc left) i j from to e before =
      ⊎_elim (λ q. rw (rw (← q) at e) q)
      (λ up. rw (before i (omega arith) up) (lowest_is left (i + 1) j (omega arith) (omega arith) e (λ q above below. before q (omega arith) below)))
      (eq-or-lt_of_le from)

  pub lowest_none : (left i : ℕ) → ((j : ℕ) → i ≤ j → j < i + left → p j ≡ false) → lowest p left i ≡ i + left
  unfolding lowest
  lowest_none zero i none = omega arith
  lowest_none (suc left) i none =
      rw (none i (omega arith) (omega arith))
      (omega (arith, lowest_none left (i + 1) (λ j from to. none j (omega arith) (omega arith))))

  -- The lowest is one of the numbers just where there is one at all.
  pub lowest_any : (left i : ℕ) → ltb (lowest p left i) (i + left) ≡ any p left i
  unfolding any lowest
  lowest_any zero i = le-ltb i (i + 0) (omega arith)
  lowest_any (suc left) i = go (p i) refl (lowest_any left (i + 1))
    where
      go :
          (b : Bool) → p i ≡ b → ltb (lowest p left (i + 1)) (i + 1 + left) ≡ any p left (i + 1) →
          ltb (lowest p (suc left) i) (i + suc left) ≡ any p (suc left) i
      go true e later = rw e (lt-ltb i (i + suc left) (omega arith))
      go false e later =
          let far : i + suc left ≡ i + 1 + left = omega arith in
          rw (e, far) later

  pub members_among : (left i j : ℕ) → Among j (members p left i) ↔ ((i ≤ j) × (j < i + left) × (p j ≡ true))
  unfolding members
  members_among zero i j = (λ h. absurd h, λ h. omega arith)
  members_among (suc left) i j = go (p i) refl (members_among left (i + 1) j)
    where
      go :
          (b : Bool) → p i ≡ b → Among j (members p left (i + 1)) ↔ ((i + 1 ≤ j) × (j < i + 1 + left) × (p j ≡ true)) →
          Among j (members p (suc left) i) ↔ ((i ≤ j) × (j < i + suc left) × (p j ≡ true))
      go true e rest =
          rw e (
            ⊎_elim (λ q. (omega arith, omega arith, rw (← q) at e)) (λ h. let r = rest.0 h in (omega arith, omega arith, r.2)),
            λ h. ⊎_elim (λ q. inl (sym q)) (λ up. inr (rest.1 (omega arith, omega arith, h.2))) (eq-or-lt_of_le h.0),
          )
      go false e rest =
          rw e (
            λ h. let r = rest.0 h in (omega arith, omega arith, r.2),
            λ h. ⊎_elim (λ q. absurd (not_both (rw (← q) at h.2) e)) (λ up. rest.1 (omega arith, omega arith, h.2)) (eq-or-lt_of_le h.0),
          )

  pub members_ascend : (left i : ℕ) → Ascending (members p left i)
  unfolding members
  members_ascend zero i = tt
  members_ascend (suc left) i = go (p i) refl (members_ascend left (i + 1))
    where
      go : (b : Bool) → p i ≡ b → Ascending (members p left (i + 1)) → Ascending (members p (suc left) i)
      go true e rest = rw e (λ y h. let r = (members_among left (i + 1) y).0 h in omega arith, rest)
      go false e rest = rw e rest

  pub members_length : (left i : ℕ) → length (members p left i) ≤ left
  unfolding members
  members_length zero i = omega arith
  members_length (suc left) i = go (p i) refl (members_length left (i + 1))
    where
      go : (b : Bool) → p i ≡ b → length (members p left (i + 1)) ≤ left → length (members p (suc left) i) ≤ suc left
      go true e rest = rw e (omega arith)
      go false e rest = rw e (omega arith)

-- Two tests that agree at each of the numbers.
pub any_agrees : (p q : ℕ → Bool) (left i : ℕ) → ((j : ℕ) → i ≤ j → j < i + left → p j ≡ q j) → any p left i ≡ any q left i
unfolding any
any_agrees p q zero i h = refl
any_agrees p q (suc left) i h =
    rw (h i (omega arith) (omega arith), any_agrees p q left (i + 1) (λ j from to. h j (omega arith) (omega arith)))

-- A test of one number more.
pub any_last : (p : ℕ → Bool) (n : ℕ) → any p (n + 1) 0 ≡ any p n 0 || p n
any_last p n =
    sym
    (one_answer (any p n 0 || p n) (or_is (itself_is (any p n 0)) (itself_is (p n))) (
      λ e.
          let w = any_true p (n + 1) 0 e in
          let le : w.0 ≤ n = omega (arith, w.2) in
          ⊎_elim (λ q. inr (rw q at w.3)) (λ lt. inl (any_some p n 0 w.0 (omega arith) (omega arith) w.3)) (eq-or-lt_of_le le),
      ⊎_elim
          (λ e. let w = any_true p n 0 e in any_some p (n + 1) 0 w.0 (omega arith) (omega (arith, w.2)) w.3)
          (λ e. any_some p (n + 1) 0 n (omega arith) (omega arith) e),
    ))

-- A proof of P at each of the numbers, as a tuple; and the one at a number.
abbrev pub Each : (ℕ → Type 0) → (left i : ℕ) → Type 0
Each P zero i = Unit {0}
Each P (suc left) i = P i × Each P left (i + 1)

pub each_at : (P : ℕ → Type 0) (left i : ℕ) → Each P left i → (j : ℕ) → i ≤ j → j < i + left → P j
each_at P zero i h j from to = absurd (omega arith)
each_at P (suc left) i h j from to =
    ⊎_elim (λ q. rw (← q) h.0) (λ q. each_at P left (i + 1) h.1 j (omega arith) (omega arith)) (eq-or-lt_of_le from)

-- A list by numbers: how many entries it has, and which.
pub listed_length : {A : Type 0} (f : ℕ → A) (n i : ℕ) → length (listed f n i) ≡ n
unfolding listed
listed_length f zero i = refl
listed_length f (suc n) i = ap suc (listed_length f n (i + 1))

pub listed_at : {A : Type 0} (f : ℕ → A) (d : A) (n i p : ℕ) → p < n → get_or (listed f n i) p d ≡ f (i + p)
unfolding listed
listed_at f d zero i p h = absurd (omega arith)
listed_at f d (suc n) i zero h = let e : i + 0 ≡ i = omega arith in rw e
listed_at f d (suc n) i (suc p) h = let e : i + suc p ≡ i + 1 + p = omega arith in rw e (listed_at f d n (i + 1) p (omega arith))

pub listed_among : (f : ℕ → ℕ) (n i x : ℕ) → Among x (listed f n i) ↔ ((j : ℕ) × (i ≤ j) × (j < i + n) × (f j ≡ x))
unfolding listed
listed_among f zero i x = (λ a. absurd a, λ w. absurd (omega (arith, w.1, w.2)))
listed_among f (suc n) i x = (
  ⊎_elim (λ q. (i, omega arith, omega arith, sym q)) (λ a. let w = (listed_among f n (i + 1) x).0 a in (w.0, omega (arith, w.1), omega (arith, w.2), w.3)),
  λ w.
      ⊎_elim (λ q. inl (sym (ap f q ∙ w.3))) (λ up. inr ((listed_among f n (i + 1) x).1 (w.0, omega arith, omega (arith, w.2), w.3)))
      (eq-or-lt_of_le w.1),
)

-- A list of a table's values ascends where the table does.
pub listed_ascends : (f : ℕ → ℕ) (n i : ℕ) → ((j k : ℕ) → i ≤ j → j < k → k < i + n → f j < f k) → Ascending (listed f n i)
unfolding listed
listed_ascends f zero i up = tt
listed_ascends f (suc n) i up = (
  λ y a. let w = (listed_among f n (i + 1) y).0 a in rw (← w.3) (up i w.0 (omega arith) (omega (arith, w.1)) (omega (arith, w.2))),
  listed_ascends f n (i + 1) (λ j k from lt to. up j k (omega arith) lt (omega arith)),
)

-- the lowest at which a test holds, where it does
pub lowest_here : (p : ℕ → Bool) (n j : ℕ) → j < n → p j ≡ true → (lowest p n 0 < n) × (p (lowest p n 0) ≡ true) × ((q : ℕ) → q < lowest p n 0 → p q ≡ false)
lowest_here p n j lt e =
    let some : any p n 0 ≡ true = any_some p n 0 j (omega arith) (omega arith) e in
    let inside : lowest p n 0 < n = ltb-true _ n (rw (let all : 0 + n ≡ n = omega arith in all) at (lowest_any p n 0) ∙ some) in
    let f = lowest_found p n 0 (lowest p n 0) refl (omega arith) in
    (inside, f.0, λ q below. f.1 q (omega arith) below)
