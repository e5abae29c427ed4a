-- What the states hold: what each step rests on, and of every mark the step that made it. By induction on the steps.
-- Assumes nothing.
use Prim.Native.Nat.{ℕ, zero, suc, ◌<◌}
use mathlib.Core.Path.{◌≡◌, refl, sym, ap, ◌∙◌, fun_ext}
use mathlib.Core.Bool.{Bool, true, false}
use mathlib.Core.Logic.{◌⊎◌, inl, inr, ⊎_elim}
use mathlib.Core.List.{List, [], ◌∷◌}
use native.Mathlib.Nat.{eq-or-lt_of_le, le_of_suc-le-suc}
use native.Mathlib.Omega.{arith}
use lib.Dec.{eqb}
use borrow.Author.Tests.{eqb-true, eqb-false, eq-eqb, ne_eqb}
use Rattle.definition.proofs.Tests.{not_both}
use Rattle.definition.specs.02-Ranges.{update}
use Rattle.definition.specs.03-Lists.{Among}
use Rattle.definition.specs.17-Case.{Case}
use Rattle.definition.specs.21-Rules.{Names}
use Rattle.definition.specs.22-Steps.{State, Rests, rests_in, opens_in, used_in, start_state, Labels, rule_of, premises_of, joined, together, rests_on, mark_all, mark_if, next, state_at}

pub update_same : {A : Type 0} (f : ℕ → A) (k : ℕ) (v : A) → update f k v k ≡ v
unfolding update
update_same f k v = rw (eq-eqb k k refl)

pub update_other : {A : Type 0} (f : ℕ → A) (k : ℕ) (v : A) (j : ℕ) → (j ≡ k → ⊥) → update f k v j ≡ f j
unfolding update
update_other f k v j n = rw (ne_eqb j k n)

-- a mark that was not set by an update was there before
pub update_true : (f : ℕ → Bool) (k j : ℕ) → update f k true j ≡ true → (f j ≡ true) ⊎ (j ≡ k)
update_true f k j e = go (eqb j k) refl
  where
    go : (b : Bool) → eqb j k ≡ b → (f j ≡ true) ⊎ (j ≡ k)
    go true q = inr (eqb-true j k q)
    go false q = inl (sym (update_other f k true j (eqb-false j k q)) ∙ e)

pub update_keeps : (f : ℕ → Bool) (k j : ℕ) → f j ≡ true → update f k true j ≡ true
update_keeps f k j e = go (eqb j k) refl
  where
    go : (b : Bool) → eqb j k ≡ b → update f k true j ≡ true
    go true q = ap (update f k true) (eqb-true j k q) ∙ update_same f k true
    go false q = update_other f k true j (eqb-false j k q) ∙ e

-- premises marked as used
pub marked_among : (used : ℕ → Bool) (ps : List ℕ) (p : ℕ) → mark_all used ps p ≡ true → (used p ≡ true) ⊎ Among p ps
unfolding mark_all
marked_among used [] p e = inl e
marked_among used (q ∷ ps) p e =
    ⊎_elim (λ u. ⊎_elim (λ v. inl v) (λ v. inr (inl v)) (update_true used q p u)) (λ m. inr (inr m))
    (marked_among (update used q true) ps p e)

pub marks_kept : (used : ℕ → Bool) (ps : List ℕ) (p : ℕ) → used p ≡ true → mark_all used ps p ≡ true
unfolding mark_all
marks_kept used [] p e = e
marks_kept used (q ∷ ps) p e = marks_kept (update used q true) ps p (update_keeps used q p e)

pub among_marked : (used : ℕ → Bool) (ps : List ℕ) (p : ℕ) → Among p ps → mark_all used ps p ≡ true
unfolding mark_all
among_marked used [] p m = absurd m
among_marked used (q ∷ ps) p (inl e) =
    marks_kept (update used q true) ps p (ap (update used q true) e ∙ update_same used q true)
among_marked used (q ∷ ps) p (inr m) = among_marked (update used q true) ps p m

-- a step before k has p as a premise
abbrev pub UsedBefore : Case → ℕ → ℕ → Type 0
UsedBefore c k p = (j : ℕ) × (j < k) × Among p (premises_of c j)

pub used_before : (c : Case) (k p : ℕ) → used_in (state_at c k) p ≡ true → UsedBefore c k p
unfolding state_at start_state next
used_before c zero p e = absurd (not_both e refl)
used_before c (suc k) p e =
    ⊎_elim (λ u. let b = used_before c k p u in (b.0, omega arith, b.2)) (λ m. (k, omega arith, m))
    (marked_among (used_in (state_at c k)) (premises_of c k) p e)

pub before_used : (c : Case) (k j p : ℕ) → j < k → Among p (premises_of c j) → used_in (state_at c k) p ≡ true
unfolding state_at start_state next
before_used c zero j p lt m = absurd (omega arith)
before_used c (suc k) j p lt m =
    ⊎_elim (λ e. among_marked (used_in (state_at c k)) (premises_of c k) p (rw (← e) m))
    (λ l. marks_kept (used_in (state_at c k)) (premises_of c k) p (before_used c k j p l m)) (eq-or-lt_of_le (le_of_suc-le-suc lt))

-- The rows cited and the obligations discharged are marked alike: by the steps whose argument names such an entry.
module _ (c : Case) (marks : State → ℕ → Bool) (named : Names → Bool)
    (empty : (x : ℕ) → marks start_state x ≡ false)
    (turn : (k : ℕ) (s : State) → marks (next c k s) ≡ mark_if (named (rule_of c k).names) (marks s) (c.step k).argument)
  where
    abbrev pub CitedBefore : ℕ → ℕ → Type 0
    CitedBefore k x = (j : ℕ) × (j < k) × (named (rule_of c j).names ≡ true) × ((c.step j).argument ≡ x)

    marked_by : (k x : ℕ) (b : Bool) → named (rule_of c k).names ≡ b → (marks (state_at c k) x ≡ true → CitedBefore k x) →
        mark_if b (marks (state_at c k)) (c.step k).argument x ≡ true → CitedBefore (suc k) x
    unfolding mark_if
    marked_by k x true n rest e =
        ⊎_elim (λ u. let r = rest u in (r.0, omega arith, r.2, r.3)) (λ q. (k, omega arith, n, sym q))
        (update_true (marks (state_at c k)) (c.step k).argument x e)
    marked_by k x false n rest e = let r = rest e in (r.0, omega arith, r.2, r.3)

    pub cited_before : (k x : ℕ) → marks (state_at c k) x ≡ true → CitedBefore k x
    unfolding state_at
    cited_before zero x e = absurd (not_both e (empty x))
    cited_before (suc k) x e =
        marked_by k x (named (rule_of c k).names) refl (cited_before k x) (ap (λ (m : ℕ → Bool). m x) (sym (turn k (state_at c k))) ∙ e)

    keeps_mark : (k x : ℕ) (b : Bool) → marks (state_at c k) x ≡ true → mark_if b (marks (state_at c k)) (c.step k).argument x ≡ true
    unfolding mark_if
    keeps_mark k x true e = update_keeps (marks (state_at c k)) (c.step k).argument x e
    keeps_mark k x false e = e

    sets_mark : (k x : ℕ) (b : Bool) → b ≡ true → (c.step k).argument ≡ x → mark_if b (marks (state_at c k)) (c.step k).argument x ≡ true
    unfolding mark_if
    sets_mark k x true n e = rw e (update_same (marks (state_at c k)) x true)
    sets_mark k x false n e = absurd (not_both n refl)

    pub before_cited : (k j x : ℕ) → j < k → named (rule_of c j).names ≡ true → (c.step j).argument ≡ x → marks (state_at c k) x ≡ true
    unfolding state_at
    before_cited zero j x lt n e = absurd (omega arith)
    before_cited (suc k) j x lt n e =
        ap (λ (m : ℕ → Bool). m x) (turn k (state_at c k)) ∙
        ⊎_elim (λ q. sets_mark k x (named (rule_of c k).names) (rw (← q) n) (rw (← q) e))
        (λ l. keeps_mark k x (named (rule_of c k).names) (before_cited k j x l n e)) (eq-or-lt_of_le (le_of_suc-le-suc lt))

-- what step j rests on, and the labels that it leaves open
unfoldable pub rests_at : Case → ℕ → Rests
rests_at c j = rests_on (rule_of c j).names (rule_of c j).effect (c.step j).argument (together (rests_in (state_at c j)) (premises_of c j))

abbrev pub open_at : Case → ℕ → Labels
open_at c j = (rests_at c j).opens

abbrev pub cites_at : Case → ℕ → Bool
cites_at c j = (rests_at c j).cites

pub rests_at_lem : (c : Case) (k j : ℕ) → j < k → rests_in (state_at c k) j ≡ rests_at c j
unfolding state_at next rests_at
rests_at_lem c zero j lt = absurd (omega arith)
rests_at_lem c (suc k) j lt =
    ⊎_elim (λ e. rw e (update_same (rests_in (state_at c k)) k _))
    (λ l. update_other (rests_in (state_at c k)) k _ j (λ e. omega arith) ∙ rests_at_lem c k j l) (eq-or-lt_of_le (le_of_suc-le-suc lt))

pub opens_at : (c : Case) (k j : ℕ) → j < k → opens_in (state_at c k) j ≡ open_at c j
opens_at c k j lt = ap (λ r. r.opens) (rests_at_lem c k j lt)

pub joined_same : (O Q : ℕ → Labels) (ps : List ℕ) → ((p : ℕ) → Among p ps → O p ≡ Q p) → joined O ps ≡ joined Q ps
unfolding joined
joined_same O Q ps same = fun_ext (at ps same)
  where
    at : (qs : List ℕ) → ((p : ℕ) → Among p qs → O p ≡ Q p) → (l : ℕ) → joined O qs l ≡ joined Q qs l
    at [] h l = refl
    at (q ∷ qs) h l = rw (h q (inl refl), at qs (λ p m. h p (inr m)) l)
