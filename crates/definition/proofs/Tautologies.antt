-- What rule 4 asks of the tree of its first premise, and check 28 of what that premise rests on: each from the other, given what the trees of the premises have to do with the steps. Assumes nothing.
use Prim.Native.Nat.{ℕ, ◌<◌}
use mathlib.Core.Path.{◌≡◌, refl, sym, ap, ◌∙◌}
use mathlib.Core.Bool.{Bool, true, false, ◌||◌}
use mathlib.Core.Logic.{◌⊎◌, inl, inr, ⊎_elim, ◌↔◌}
use mathlib.Core.List.{List, [], ◌∷◌}
use native.Mathlib.Omega.{arith}
use lib.Dec.{eqb}
use borrow.Author.Tests.{eqb-true, eq-eqb}
use Rattle.definition.proofs.RangeLaws.{any_false, any_none, each_at}
use Rattle.definition.proofs.StateMarks.{rests_at, open_at, cites_at, rests_at_lem}
use Rattle.definition.proofs.Tests.{and_true, equals_is, or_is₃, or_false, or_intro_left, or_intro_right, or_true, not_both, never_true}
use Rattle.definition.specs.02-Ranges.{any}
use Rattle.definition.specs.03-Lists.{Among}
use Rattle.definition.specs.17-Case.{Case}
use Rattle.definition.specs.21-Rules.{rule, rules, rule_at}
use Rattle.definition.specs.22-Steps.{Labels, Rests, rests_in, rule_of, premises_of, is_evidence, some_cites, first_rests, no_tautology, state_at}
use Rattle.definition.specs.42-Account.{HandedOn, Citing, Tautology, OfFirst, TreesAllowed}

-- the rules that cite, by number
evidence_numbers : (n : ℕ) → n < 16 → is_evidence (rule_at n).names ≡ eqb n 1 || eqb n 2 || eqb n 12
unfolding is_evidence rule_at rules rule
evidence_numbers n lt = each_at (λ m. is_evidence (rule_at m).names ≡ eqb m 1 || eqb m 2 || eqb m 12) 16 0 (refl, (refl, (refl, (refl, (refl, (refl, (refl, (refl, (refl, (refl, (refl, (refl, (refl, (refl, (refl, (refl, tt)))))))))))))))) n (omega arith) (omega arith)

pub citing_is : (n : ℕ) → n < 16 → (is_evidence (rule_at n).names ≡ true) ↔ Citing n
citing_is n lt = rw (evidence_numbers n lt) (or_is₃ (equals_is n 1) (equals_is n 2) (equals_is n 12))

-- one of the steps cites
some_cites_lem : (cites : ℕ → Bool) (ps : List ℕ) → some_cites cites ps ≡ true → (p : ℕ) × Among p ps × (cites p ≡ true)
unfolding some_cites
some_cites_lem cites [] e = absurd (not_both e refl)
some_cites_lem cites (p ∷ ps) e = ⊎_elim (λ h. (p, inl refl, h)) (λ h. let r = some_cites_lem cites ps h in (r.0, inr r.1, r.2)) (or_true (cites p) (some_cites cites ps) e)

cites_some : (cites : ℕ → Bool) (ps : List ℕ) (p : ℕ) → Among p ps → cites p ≡ true → some_cites cites ps ≡ true
unfolding some_cites
cites_some cites [] p m e = absurd m
cites_some cites (q ∷ ps) p (inl is) e = or_intro_left {a = cites q} _ (rw (← is) e)
cites_some cites (q ∷ ps) p (inr m) e = or_intro_right (cites q) (cites_some cites ps p m e)

-- a step rests on evidence if it cites some, or a premise rests on some; and only then
module _ (c : Case) (k : ℕ) (earlier : (p : ℕ) → Among p (premises_of c k) → p < k) where
  pub cites_itself : is_evidence (rule_of c k).names ≡ true → cites_at c k ≡ true
  unfolding rests_at
  cites_itself e = or_intro_left _ e

  pub cites_above : (p : ℕ) → Among p (premises_of c k) → cites_at c p ≡ true → cites_at c k ≡ true
  unfolding rests_at
  cites_above p m e =
      or_intro_right (is_evidence (rule_of c k).names) (cites_some (λ q. (rests_in (state_at c k) q).cites) (premises_of c k) p m (ap (λ r. r.cites) (rests_at_lem c k p (earlier p m)) ∙ e))

  pub cites_from : cites_at c k ≡ true → (is_evidence (rule_of c k).names ≡ true) ⊎ ((p : ℕ) × Among p (premises_of c k) × (cites_at c p ≡ true))
  unfolding rests_at
  cites_from e =
      ⊎_elim (λ h. inl h)
      (λ h. let r = some_cites_lem (λ q. (rests_in (state_at c k) q).cites) (premises_of c k) h in inr (r.0, r.1, ap (λ t. t.cites) (sym (rests_at_lem c k r.0 (earlier r.0 r.1))) ∙ r.2))
      (or_true (is_evidence (rule_of c k).names) _ e)

-- check 28 depends on what the premises rest on alone
first_same : (c : Case) (R Q : ℕ → Rests) (ps : List ℕ) → ((p : ℕ) → Among p ps → R p ≡ Q p) → first_rests c R ps ≡ first_rests c Q ps
unfolding first_rests
first_same c R Q [] same = refl
first_same c R Q (p ∷ ps) same = rw (same p (inl refl))

pub tautology_same : (c : Case) (R Q : ℕ → Rests) (k : ℕ) → ((p : ℕ) → Among p (premises_of c k) → R p ≡ Q p) → no_tautology c R k ≡ no_tautology c Q k
unfolding no_tautology
tautology_same c R Q k same = rw (first_same c R Q (premises_of c k) same)

-- what is handed on from trees, and the steps that they are of, one by one
abbrev pub Paired : (P : HandedOn → ℕ → Type 0) → List HandedOn → List ℕ → Type 0
Paired P [] [] = Unit {0}
Paired P [] (p ∷ ps) = ⊥
Paired P (g ∷ gs) [] = ⊥
Paired P (g ∷ gs) (p ∷ ps) = P g p × Paired P gs ps

module _ (c : Case) where
  -- g is handed on from the tree of step p: its labels, and it rests on evidence if a step of the tree cites some
  pub record CitesOf (g : HandedOn) (p : ℕ) : Type 0 where
    pub opens_is : g.opens ≡ open_at c p
    pub rests : (x : ℕ) → Among x g.steps → Citing (c.step x).rule → cites_at c p ≡ true

  -- the same, and it rests on evidence only if a step of the tree cites some
  pub record CitedIn (g : HandedOn) (p : ℕ) : Type 0 where
    pub opens_is : g.opens ≡ open_at c p
    pub cited : cites_at c p ≡ true → (x : ℕ) × Among x g.steps × Citing (c.step x).rule

  pub tautology_of : (g : HandedOn) (p : ℕ) (ps : List ℕ) → CitesOf g p → first_rests c (rests_at c) (p ∷ ps) ≡ false → Tautology c g
  unfolding first_rests
  tautology_of g p ps s e =
      let h = or_false (cites_at c p) (any (open_at c p) c.labels 0) e in
      record {
        cites_none = λ j m q. not_both (s.rests j m q) h.0;
        none_open = λ l lt o. not_both (ap (λ (L : Labels). L l) (sym s.opens_is) ∙ o) (any_false (open_at c p) c.labels 0 h.1 l (omega arith) (omega arith));
      }

  pub no_tautology_of : (g : HandedOn) (p : ℕ) (ps : List ℕ) → CitedIn g p → first_rests c (rests_at c) (p ∷ ps) ≡ true → Tautology c g → ⊥
  unfolding first_rests
  no_tautology_of g p ps s e t =
      ⊎_elim (λ h. let x = s.cited h in t.cites_none x.0 x.1 x.2)
      (λ h. not_both h (any_none (open_at c p) c.labels 0 (λ l from to. never_true _ (λ o. t.none_open l (omega arith) (ap (λ (L : Labels). L l) s.opens_is ∙ o)))))
      (or_true (cites_at c p) _ e)

  pub allowed_of : (k : ℕ) (gs : List HandedOn) → Paired CitesOf gs (premises_of c k) → ((c.step k).rule ≡ 4 → premises_of c k ≡ [] → ⊥) → no_tautology c (rests_at c) k ≡ false → TreesAllowed c (c.step k).rule gs
  unfolding no_tautology
  allowed_of k gs pairs some e = record { refining = λ is. go gs (premises_of c k) pairs (some is) (rw (eq-eqb (c.step k).rule 4 is) at e) }
    where
      go : (hs : List HandedOn) (qs : List ℕ) → Paired CitesOf hs qs → (qs ≡ [] → ⊥) → first_rests c (rests_at c) qs ≡ false → OfFirst (Tautology c) hs
      go [] [] w n f = absurd (n refl)
      go [] (q ∷ qs) w n f = absurd w
      go (h ∷ hs) [] w n f = absurd w
      go (h ∷ hs) (q ∷ qs) w n f = tautology_of h q qs w.0 f

  pub of_allowed : (k : ℕ) (gs : List HandedOn) → Paired CitedIn gs (premises_of c k) → TreesAllowed c (c.step k).rule gs → no_tautology c (rests_at c) k ≡ false
  unfolding no_tautology
  of_allowed k gs pairs t = never_true _ (λ e. let h = and_true (eqb (c.step k).rule 4) _ e in go gs (premises_of c k) pairs (t.refining (eqb-true (c.step k).rule 4 h.0)) h.1)
    where
      go : (hs : List HandedOn) (qs : List ℕ) → Paired CitedIn hs qs → OfFirst (Tautology c) hs → first_rests c (rests_at c) qs ≡ true → ⊥
      go [] [] w t f = t
      go [] (q ∷ qs) w t f = w
      go (h ∷ hs) [] w t f = w
      go (h ∷ hs) (q ∷ qs) w t f = no_tautology_of h q qs w.0 f t
