-- Steps that no test finds fault with make trees of reasoning. A step has one parent, so the trees of two premises have no step in common; the rest is handed on by the rules.
-- By induction on the step's number. Assumes nothing.
use Prim.Native.Nat.{ℕ, zero, suc, ◌+◌, ◌≤◌, ◌<◌}
use mathlib.Core.Path.{◌≡◌, refl, sym, ap, subst, ◌∙◌}
use mathlib.Core.Bool.{Bool, true, false}
use mathlib.Core.Logic.{◌⊎◌, inl, inr, ⊎_elim}
use mathlib.Core.List.{List, [], ◌∷◌, ◌++◌, map}
use native.Mathlib.Omega.{arith}
use Rattle.definition.proofs.ListLaws.{among_append, append_among}
use Rattle.definition.proofs.PremiseLaws.{Distinct, share_split, share_same}
use Rattle.definition.proofs.RuleLaws.{spends, tests_follow}
use Rattle.definition.proofs.StateMarks.{used_before, before_used, before_cited, rests_at, open_at, cites_at, rests_at_lem, opens_at, joined_same}
use Rattle.definition.proofs.StepLaws.{Local, Parts, fine_parts}
use Rattle.definition.proofs.Tautologies.{citing_is, cites_itself, cites_above, tautology_same, Paired, CitesOf, allowed_of}
use Rattle.definition.proofs.Tests.{not_both, trichotomy}
use Rattle.definition.specs.03-Lists.{Among, Disjoint}
use Rattle.definition.specs.13-Formulas.{each_use}
use Rattle.definition.specs.17-Case.{Case}
use Rattle.definition.specs.21-Rules.{rule, rules, rule_at}
use Rattle.definition.specs.22-Steps.{Labels, Rests, rests_in, opens_in, used_in, rule_of, premises_of, premise_formulas, is_an_obligation, joined, share, next, start_state, state_at}
use Rattle.definition.specs.42-Account.{both_sets, no_labels, ObligationsSplit, Follows, HandedOn, all_opens, all_spent, all_steps, Citing, Proof, Proofs, by_rule, no_more, one_more}
use Rattle.definition.specs.44-Demands.{StepsHold}

-- step x is in the tree of step k
pub data InTree (c : Case) : ℕ → ℕ → Type 0 where
  itself : {k : ℕ} → InTree c k k
  under : {x y k : ℕ} → Among x (premises_of c y) → InTree c y k → InTree c x k

-- step x discharges obligation o
abbrev pub Discharges : Case → ℕ → ℕ → Type 0
Discharges c x o = (is_an_obligation (rule_of c x).names ≡ true) × ((c.step x).argument ≡ o)

pub discharged_then : (c : Case) (k j o : ℕ) → j < k → Discharges c j o → (state_at c k).discharged o ≡ true
unfolding start_state next
discharged_then c k j o lt d = before_cited c (λ s. s.discharged) is_an_obligation (λ x. refl) (λ i s. refl) k j o lt d.0 d.1

spent_by : (c : Case) (x a o : ℕ) → (c.step x).argument ≡ a → Among o (spends (c.step x).rule a) → Discharges c x o
unfolding spends rule_of
spent_by c x a o e m = go (is_an_obligation (rule_at (c.step x).rule).names) refl m
  where
    go : (b : Bool) → is_an_obligation (rule_at (c.step x).rule).names ≡ b → Among o (spends (c.step x).rule a) → Discharges c x o
    go true q w = (q, e ∙ ⊎_elim (λ is. sym is) (λ v. absurd v) (rw q at w))
    go false q w = absurd (rw q at w)

-- a step of rule 4 has premises
some_premise : (c : Case) {R : ℕ → Rests} (k : ℕ) → Local c R k → (c.step k).rule ≡ 4 → premises_of c k ≡ [] → ⊥
unfolding premise_formulas rule_at rules rule
some_premise c k l is none = not_both (rw none refl) (rw is at l.tests.least)

-- The steps up to `top`, with which no test finds fault.
module _ (c : Case) (top : ℕ) (few : top ≤ c.steps) (fine : StepsHold c top) where
  parts : (k : ℕ) → k < top → Parts c k (state_at c k)
  parts k lt = fine_parts c k (state_at c k) (fine k lt)

  pub earlier : {x y : ℕ} → y < top → Among x (premises_of c y) → x < y
  earlier {x} {y} lt m = (parts y lt).usable.earlier x m

  pub one_parent : (x : ℕ) {y z : ℕ} → y < top → z < top → Among x (premises_of c y) → Among x (premises_of c z) → y ≡ z
  one_parent x {y} {z} ly lz m k =
      ⊎_elim (λ l. absurd (not_both (before_used c z y x l m) ((parts z lz).usable.unused x k)))
      (⊎_elim (λ e. e) (λ l. absurd (not_both (before_used c y z x l k) ((parts y ly).usable.unused x m)))) (trichotomy y z)

  pub in_tree_le : {x k : ℕ} → k < top → InTree c x k → x ≤ k
  in_tree_le lt itself = omega arith
  in_tree_le lt (under m b) = let h = in_tree_le lt b in let e = earlier (omega arith) m in omega arith

  -- of two steps in whose trees x is, one is in the tree of the other
  chain : {x a b : ℕ} → a < top → b < top → InTree c x a → InTree c x b → InTree c a b ⊎ InTree c b a
  chain {x} la lb itself q = inl q
  chain {x} la lb (under m p) itself = inr (under m p)
  chain {x} la lb (under {y} m p) (under {y = z} k q) =
      let h = in_tree_le la p in
      let g = in_tree_le lb q in
      chain la lb p (rw (one_parent x (omega arith) (omega arith) m k) q)

  not_above : {p q k : ℕ} → k < top → Among p (premises_of c k) → Among q (premises_of c k) → (p ≡ q → ⊥) → InTree c p q → ⊥
  not_above {p} lt m n differ itself = differ refl
  not_above {p} lt m n differ (under w b) =
      let e = earlier lt n in
      let h = in_tree_le (omega arith) b in
      let is = one_parent p (omega arith) lt w m in
      omega arith

  -- the trees of two premises of a step have no step in common
  pub apart : {x p q k : ℕ} → k < top → Among p (premises_of c k) → Among q (premises_of c k) → (p ≡ q → ⊥) → InTree c x p → InTree c x q → ⊥
  apart lt m n differ b d =
      let e = earlier lt m in
      let h = earlier lt n in
      ⊎_elim (λ w. not_above lt m n differ w) (λ w. not_above lt n m (λ is. differ (sym is)) w) (chain (omega arith) (omega arith) b d)

  -- no two steps discharge the same each-use obligation
  pub once_each : {x y o : ℕ} → x < top → y < top → Discharges c x o → Discharges c y o → (c.obligation o).mark ≡ each_use → x ≡ y
  once_each {x} {y} {o} lx ly d e m =
      ⊎_elim (λ l. absurd (later ly e l d)) (⊎_elim (λ q. q) (λ l. absurd (later lx d l e))) (trichotomy x y)
    where
      later : {j k : ℕ} → k < top → Discharges c k o → j < k → Discharges c j o → ⊥
      later {j} {k} lk dk l dj =
          (parts k lk).once dk.0 (rw dk.1 m) (rw dk.1 (discharged_then c k j o l dj))

  -- the tree of step k, with the steps and the obligations that are in it
  pub record Tree (k : ℕ) : Type 0 where
    pub spent : List ℕ
    pub steps : List ℕ
    pub proof : Proof c k (c.step k).formula (open_at c k) spent steps
    pub within : (x : ℕ) → Among x steps → InTree c x k
    pub whole : (x : ℕ) → InTree c x k → Among x steps
    pub spends_only : (o : ℕ) → Among o spent → (x : ℕ) × InTree c x k × Discharges c x o

  abbrev pub handed_by : {k : ℕ} → Tree k → HandedOn
  handed_by {k} t = record { opens = open_at c k; spent = t.spent; steps = t.steps }

  -- the trees of some premises of step k
  pub record Trees (k : ℕ) (ps : List ℕ) : Type 0 where
    pub handed : List HandedOn
    pub proofs : Proofs c k ps (map (λ p. (c.step p).formula) ps) handed
    pub opens_are : all_opens handed ≡ joined (open_at c) ps
    pub cites_of : Paired (CitesOf c) handed ps
    pub within : (x : ℕ) → Among x (all_steps handed) → (p : ℕ) × Among p ps × InTree c x p
    pub whole : (x p : ℕ) → Among p ps → InTree c x p → Among x (all_steps handed)
    pub spends_only : (o : ℕ) → Among o (all_spent handed) → (p : ℕ) × (x : ℕ) × Among p ps × InTree c x p × Discharges c x o

  in_tree_up : {x p k : ℕ} → Among p (premises_of c k) → InTree c x p → InTree c x k
  in_tree_up m itself = under m itself
  in_tree_up m (under w b) = under w (in_tree_up m b)

  -- a step rests on the evidence that a step of its tree rests on
  tree_rests : {x k : ℕ} → k < top → InTree c x k → cites_at c x ≡ true → cites_at c k ≡ true
  tree_rests lt itself e = e
  tree_rests {x} lt (under {y = y} m b) e = let h = in_tree_le lt b in tree_rests lt b (cites_above c y (λ p n. earlier (omega arith) n) x m e)

  pub tree_cites : {x k : ℕ} → k < top → InTree c x k → Citing (c.step x).rule → cites_at c k ≡ true
  unfolding rule_of
  tree_cites {x} lt b q =
      let h = in_tree_le lt b in
      let lx : x < top = omega arith in
      tree_rests lt b (cites_itself c x (λ p n. earlier lx n) ((citing_is (c.step x).rule (parts x lx).local.number).1 q))

  pub cites_of_tree : (k : ℕ) → k < top → (t : Tree k) → CitesOf c (handed_by t) k
  cites_of_tree k lt t = record { opens_is = refl; rests = λ x m q. tree_cites lt (t.within x m) q }

  premise_trees :
      (k : ℕ) → k < top → ((p : ℕ) → p < k → Tree p) →
      (ps : List ℕ) → ((p : ℕ) → Among p ps → Among p (premises_of c k)) → Distinct ps → share c (open_at c) ps ≡ false → Trees k ps
  unfolding joined both_sets no_labels
  premise_trees k lt below [] from distinct split =
      record {
        handed = [];
        proofs = no_more;
        opens_are = refl;
        cites_of = tt;
        within = λ x m. absurd m;
        whole = λ x p m b. m;
        spends_only = λ o m. absurd m;
      }
  premise_trees k lt below (p ∷ ps) from distinct split =
      let s = share_split c (open_at c) p ps split in
      let t = below p (earlier lt (from p (inl refl))) in
      let ts = premise_trees k lt below ps (λ q m. from q (inr m)) distinct.1 s.1 in
      let differ : (q : ℕ) → Among q ps → p ≡ q → ⊥ = λ q m e. distinct.0 (rw e m) in
      let gs = ts.handed in
      let no_step : Disjoint t.steps (all_steps gs) = λ x m n. let w = ts.within x n in apart lt (from p (inl refl)) (from w.0 (inr w.1)) (differ w.0 w.1) (t.within x m) w.2 in
      let no_duty : ObligationsSplit c t.spent (all_spent gs) =
      λ o e m n.
      let v = t.spends_only o m in
      let w = ts.spends_only o n in
      let lp = earlier lt (from p (inl refl)) in
      let lq = earlier lt (from w.0 (inr w.2)) in
      let hv = in_tree_le (omega arith) v.1 in
      let hw = in_tree_le (omega arith) w.3 in
      let is = once_each (omega arith) (omega arith) v.2 w.4 e in
      apart lt (from p (inl refl)) (from w.0 (inr w.2)) (differ w.0 w.2) v.1 (rw is w.3) in
      record {
        handed = handed_by t ∷ gs;
        proofs = one_more (earlier lt (from p (inl refl))) t.proof ts.proofs (rw ts.opens_are s.0) no_duty no_step;
        opens_are = ap (both_sets (open_at c p)) ts.opens_are;
        cites_of = (let lp = earlier lt (from p (inl refl)) in cites_of_tree p (omega arith) t, ts.cites_of);
        within = λ x m. ⊎_elim (λ a. (p, inl refl, t.within x a)) (λ a. let w = ts.within x a in (w.0, inr w.1, w.2)) (append_among t.steps (all_steps gs) x m);
        whole = λ x q m b. among_append t.steps (all_steps gs) x (⊎_elim (λ e. inl (t.whole x (rw (← e) b))) (λ n. inr (ts.whole x q n b)) m);
        spends_only = λ o m. ⊎_elim (λ a. let v = t.spends_only o a in (p, v.0, inl refl, v.1, v.2)) (λ a. let w = ts.spends_only o a in (w.0, w.1, inr w.2, w.3, w.4)) (append_among t.spent (all_spent gs) o m);
      }

  in_tree_down : {x k : ℕ} → InTree c x k → (x ≡ k) ⊎ ((p : ℕ) × Among p (premises_of c k) × InTree c x p)
  in_tree_down itself = inl refl
  in_tree_down {k} (under {x} {y} m b) =
      ⊎_elim (λ e. inr (x, subst (λ (j : ℕ). Among x (premises_of c j)) e m, itself)) (λ w. inr (w.0, w.1, under m w.2)) (in_tree_down b)

  pub tree : (fuel k : ℕ) → k < fuel → k < top → Tree k
  unfolding rests_at premise_formulas rule_of
  tree zero k lt lk = absurd (omega arith)
  tree (suc fuel) k lt lk =
      let l = (parts k lk).local in
      let ps = premises_of c k in
      let same : (p : ℕ) → Among p ps → opens_in (state_at c k) p ≡ open_at c p = λ p m. opens_at c k p (earlier lk m) in
      let ts = premise_trees k lk (λ p lp. tree fuel p (omega arith) (omega arith)) ps (λ p m. m) (parts k lk).usable.distinct (share_same c (opens_in (state_at c k)) (open_at c) ps same l.split) in
      let follows = subst (λ (L : Labels). Follows c (c.step k).rule (c.step k).formula (c.step k).argument (premise_formulas c k) L (open_at c k) (spends (c.step k).rule (c.step k).argument)) (joined_same (opens_in (state_at c k)) (open_at c) ps same ∙ sym ts.opens_are) (tests_follow c (c.step k).rule (c.step k).formula (c.step k).argument (premise_formulas c k) (joined (opens_in (state_at c k)) ps) l.number l.tests) in
      let split : ObligationsSplit c (spends (c.step k).rule (c.step k).argument) (all_spent ts.handed) =
      λ o e m n.
      let w = ts.spends_only o n in
      let lp = earlier lk w.2 in
      let h = in_tree_le (omega arith) w.3 in
      let is = once_each (omega arith) lk w.4 (spent_by c k (c.step k).argument o refl m) e in
      omega arith in
      let allowed = allowed_of c k ts.handed ts.cites_of (some_premise c k l) (rw (tautology_same c (rests_in (state_at c k)) (rests_at c) k (λ p m. rests_at_lem c k p (earlier lk m))) at l.refines) in
      record {
        spent = spends (c.step k).rule (c.step k).argument ++ all_spent ts.handed;
        steps = k ∷ all_steps ts.handed;
        proof = by_rule {k = k} (record { inside = omega (arith, lk, few); rule_is = refl; formula_is = refl; argument_is = refl; premises_are = refl; policy = l.policy; closed = l.closed }) ts.proofs follows split allowed;
        within = λ x. ⊎_elim (λ e. rw e itself) (λ m. let w = ts.within x m in in_tree_up w.1 w.2);
        whole = λ x b. ⊎_elim (λ e. inl e) (λ w. inr (ts.whole x w.0 w.1 w.2)) (in_tree_down b);
        spends_only = λ o m. ⊎_elim (λ a. (k, itself, spent_by c k (c.step k).argument o refl a)) (λ a. let w = ts.spends_only o a in (w.1, in_tree_up w.2 w.3, w.4)) (append_among (spends (c.step k).rule (c.step k).argument) (all_spent ts.handed) o m);
      }

  -- where each step before the last is a premise, all steps are in the tree of the last
  pub reaches : (last : ℕ) → last + 1 ≡ top → ((j : ℕ) → j < last → used_in (state_at c top) j ≡ true) → (fuel x : ℕ) → last ≤ x + fuel → x < top → InTree c x last
  reaches last e used zero x le lt = let is : x ≡ last = omega arith in rw is itself
  reaches last e used (suc fuel) x le lt =
      ⊎_elim (λ l. let u = used_before c top x (used x l) in let h = earlier u.1 u.2 in under u.2 (reaches last e used fuel u.0 (omega arith) u.1))
      (⊎_elim (λ is. rw is itself) (λ l. absurd (omega arith))) (trichotomy x last)
