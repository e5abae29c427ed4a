-- What the tests of a step's premises say: they are earlier, unused and distinct, and share no each-use label. By induction on the premises.
-- Assumes nothing.
use Prim.Native.Nat.{ℕ, ◌<◌}
use mathlib.Core.Path.{◌≡◌, refl, sym, ap, ◌∙◌}
use mathlib.Core.Bool.{Bool, true, false, ◌&&◌}
use mathlib.Core.Logic.{inl, inr, ⊎_elim}
use mathlib.Core.List.{List, [], ◌∷◌}
use native.Mathlib.Omega.{arith}
use lib.Dec.{eqb, ltb}
use borrow.Author.Tests.{ltb-true, lt-ltb, eq-eqb, eqb-true, not-false}
use Rattle.definition.proofs.RangeLaws.{any_false, any_none}
use Rattle.definition.proofs.StateMarks.{update_same, update_other, joined_same}
use Rattle.definition.proofs.Tests.{and_true, and_intro, or_false, not_both, never_true}
use Rattle.definition.specs.02-Ranges.{any, update}
use Rattle.definition.specs.03-Lists.{Among}
use Rattle.definition.specs.13-Formulas.{each_use}
use Rattle.definition.specs.17-Case.{Case}
use Rattle.definition.specs.22-Steps.{Labels, bad_premises, joined, is_each_use, share}
use Rattle.definition.specs.42-Account.{LabelsSplit}

-- no entry stands twice
abbrev pub Distinct : List ℕ → Type 0
Distinct [] = Unit {0}
Distinct (p ∷ ps) = (Among p ps → ⊥) × Distinct ps

pub record Usable (used : ℕ → Bool) (k : ℕ) (ps : List ℕ) : Type 0 where
  pub earlier : (p : ℕ) → Among p ps → p < k
  pub unused : (p : ℕ) → Among p ps → used p ≡ false
  pub distinct : Distinct ps

pub premises_usable : (used : ℕ → Bool) (k : ℕ) (ps : List ℕ) → bad_premises used k ps ≡ false → Usable used k ps
unfolding bad_premises
premises_usable used k [] e = record { earlier = λ p m. absurd m; unused = λ p m. absurd m; distinct = tt }
premises_usable used k (q ∷ ps) e =
    let h = or_false _ _ e in
    let g = or_false _ _ h.0 in
    let r = premises_usable (update used q true) k ps h.1 in
    let new : Among q ps → ⊥ = λ m. not_both (update_same used q true) (r.unused q m) in
    record {
      earlier = λ p. ⊎_elim (λ is. rw is (ltb-true q k (not-false (ltb q k) g.0))) (λ m. r.earlier p m);
      unused = λ p. ⊎_elim (λ is. ap used is ∙ g.1) (λ m. sym (update_other used q true p (λ is. new (rw is at m))) ∙ r.unused p m);
      distinct = (new, r.distinct);
    }

pub usable_premises : (used : ℕ → Bool) (k : ℕ) (ps : List ℕ) → Usable used k ps → bad_premises used k ps ≡ false
unfolding bad_premises
usable_premises used k [] u = refl
usable_premises used k (q ∷ ps) u =
    rw (lt-ltb q k (u.earlier q (inl refl)), u.unused q (inl refl))
    (usable_premises (update used q true) k ps
    (record {
      earlier = λ p m. u.earlier p (inr m);
      unused = λ p m. update_other used q true p (λ is. u.distinct.0 (rw is at m)) ∙ u.unused p (inr m);
      distinct = u.distinct.1;
    }))

-- the first premise and the others share no each-use label, and neither do the others
pub share_split : (c : Case) (O : ℕ → Labels) (p : ℕ) (ps : List ℕ) → share c O (p ∷ ps) ≡ false → LabelsSplit c (O p) (joined O ps) × (share c O ps ≡ false)
unfolding share is_each_use
share_split c O p ps e =
    let shared : ℕ → Bool = λ l. eqb (c.label l).mark each_use && O p l && joined O ps l in
    let h = or_false (any shared c.labels 0) (share c O ps) e in
    (λ l lt m x y. not_both (and_intro (and_intro (eq-eqb _ each_use m) x) y) (any_false shared c.labels 0 h.0 l (omega arith) (omega arith)), h.1)

pub split_share : (c : Case) (O : ℕ → Labels) (p : ℕ) (ps : List ℕ) → LabelsSplit c (O p) (joined O ps) → share c O ps ≡ false → share c O (p ∷ ps) ≡ false
unfolding share is_each_use
split_share c O p ps s e =
    rw
    (any_none (λ l. eqb (c.label l).mark each_use && O p l && joined O ps l) c.labels 0
    (λ l from to.
    never_true _
    (λ t.
    let g = and_true _ (joined O ps l) t in
    let h = and_true _ (O p l) g.0 in
    s l (omega arith) (eqb-true (c.label l).mark each_use h.0) h.1 g.1))) e

-- sharing depends on the premises' labels alone
pub share_same : (c : Case) (O Q : ℕ → Labels) (ps : List ℕ) → ((p : ℕ) → Among p ps → O p ≡ Q p) → share c O ps ≡ false → share c Q ps ≡ false
unfolding share
share_same c O Q [] same e = refl
share_same c O Q (p ∷ ps) same e =
    let h = share_split c O p ps e in
    split_share c Q p ps
    (rw (← same p (inl refl), ← joined_same O Q ps (λ q m. same q (inr m))) h.0)
    (share_same c O Q ps (λ q m. same q (inr m)) h.1)
