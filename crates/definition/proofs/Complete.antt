-- Trees of reasoning pass every test. What the steps of a tree have each for itself, and what no two of them have in common, is gathered by induction on the tree.
-- Assumes nothing.
use Prim.Native.Nat.{ℕ, ◌≤◌, ◌<◌}
use mathlib.Core.Path.{◌≡◌, refl, sym, ap, ap₂, subst, ◌∙◌}
use mathlib.Core.Bool.{true, false}
use mathlib.Core.Logic.{◌⊎◌, inl, inr, ⊎_elim}
use mathlib.Core.List.{List, [], ◌∷◌, ◌++◌, map}
use native.Mathlib.Omega.{arith}
use Rattle.definition.proofs.ListLaws.{among_append, append_among}
use Rattle.definition.proofs.PremiseLaws.{Distinct, split_share}
use Rattle.definition.proofs.RuleLaws.{spends, Small, Tests, followed}
use Rattle.definition.proofs.Sound.{Discharges}
use Rattle.definition.proofs.StateMarks.{rests_at, open_at, cites_at, opens_at, joined_same}
use Rattle.definition.proofs.StepLaws.{Local}
use Rattle.definition.proofs.Tautologies.{citing_is, cites_from, Paired, CitedIn, of_allowed}
use Rattle.definition.specs.03-Lists.{Among, Disjoint}
use Rattle.definition.specs.13-Formulas.{Formula, each_use}
use Rattle.definition.specs.17-Case.{Case}
use Rattle.definition.specs.21-Rules.{rule_at}
use Rattle.definition.specs.22-Steps.{Labels, opens_in, rule_of, premises_of, premise_formulas, is_an_obligation, joined, leaves, share, state_at}
use Rattle.definition.specs.42-Account.{both_sets, no_labels, IsStep, LabelsSplit, ObligationsSplit, Follows, HandedOn, all_opens, all_spent, all_steps, Citing, TreesAllowed, Proof, by_rule, no_more, one_more}

-- what a step of a tree has by itself
pub record Sure (c : Case) (k : ℕ) : Type 0 where
  pub inside : k < c.steps
  pub earlier : (p : ℕ) → Among p (premises_of c k) → p < k
  pub distinct : Distinct (premises_of c k)
  pub local : Local c (rests_at c) k

-- what the steps S have, which spend the obligations U
pub record Region (c : Case) (U S : List ℕ) : Type 0 where
  pub sure : (x : ℕ) → Among x S → Sure c x
  pub whole : (x p : ℕ) → Among x S → Among p (premises_of c x) → Among p S
  pub one_parent : (x y p : ℕ) → Among x S → Among y S → Among p (premises_of c x) → Among p (premises_of c y) → x ≡ y
  pub spent : (x o : ℕ) → Among x S → Discharges c x o → Among o U
  pub once : (x y o : ℕ) → Among x S → Among y S → Discharges c x o → Discharges c y o → (c.obligation o).mark ≡ each_use → x ≡ y

no_region : (c : Case) → Region c [] []
no_region c =
    record {
      sure = λ x m. absurd m;
      whole = λ x p m. absurd m;
      one_parent = λ x y p m. absurd m;
      spent = λ x o m. absurd m;
      once = λ x y o m. absurd m;
    }

join_regions : (c : Case) (U W S T : List ℕ) → Region c U S → Region c W T → ObligationsSplit c U W → Disjoint S T → Region c (U ++ W) (S ++ T)
join_regions c U W S T a b split apart =
    let at = append_among S T in
    record {
      sure = λ x m. ⊎_elim (a.sure x) (b.sure x) (at x m);
      whole = λ x p m q. among_append S T p (⊎_elim (λ n. inl (a.whole x p n q)) (λ n. inr (b.whole x p n q)) (at x m));
      one_parent =
          λ x y p m n q r.
          ⊎_elim
          (λ i. ⊎_elim (λ j. a.one_parent x y p i j q r) (λ j. absurd (apart p (a.whole x p i q) (b.whole y p j r))) (at y n))
          (λ i. ⊎_elim (λ j. absurd (apart p (a.whole y p j r) (b.whole x p i q))) (λ j. b.one_parent x y p i j q r) (at y n)) (at x m);
      spent = λ x o m d. among_append U W o (⊎_elim (λ n. inl (a.spent x o n d)) (λ n. inr (b.spent x o n d)) (at x m));
      once =
          λ x y o m n d e k.
          ⊎_elim
          (λ i. ⊎_elim (λ j. a.once x y o i j d e k) (λ j. absurd (split o k (a.spent x o i d) (b.spent y o j e))) (at y n))
          (λ i. ⊎_elim (λ j. absurd (split o k (a.spent y o j e) (b.spent x o i d))) (λ j. b.once x y o i j d e k) (at y n)) (at x m);
    }

-- a step put under its premises
add_root :
    (c : Case) (k : ℕ) (u U S : List ℕ) → Region c U S → Sure c k → ((p : ℕ) → Among p (premises_of c k) → Among p S) →
    ((x p : ℕ) → Among x S → Among p (premises_of c x) → Among p (premises_of c k) → ⊥) →
    ((o : ℕ) → Discharges c k o → Among o u) → ObligationsSplit c u U → Region c (u ++ U) (k ∷ S)
add_root c k u U S a s in_s apart spends_it split =
    record {
      sure = λ x. ⊎_elim (λ e. rw e s) (a.sure x);
      whole = λ x p m q. inr (⊎_elim (λ e. in_s p (rw e at q)) (λ n. a.whole x p n q) m);
      one_parent =
          λ x y p m n q r.
          ⊎_elim
          (λ i. ⊎_elim (λ j. i ∙ sym j) (λ j. absurd (apart y p j r (rw i at q))) n)
          (λ i. ⊎_elim (λ j. absurd (apart x p i q (rw j at r))) (λ j. a.one_parent x y p i j q r) n) m;
      spent = λ x o m d. among_append u U o (⊎_elim (λ e. inl (spends_it o (rw e at d))) (λ n. inr (a.spent x o n d)) m);
      once =
          λ x y o m n d e z.
          ⊎_elim
          (λ i. ⊎_elim (λ j. i ∙ sym j) (λ j. absurd (split o z (spends_it o (rw i at d)) (a.spent y o j e))) n)
          (λ i. ⊎_elim (λ j. absurd (split o z (spends_it o (rw j at e)) (a.spent x o i d))) (λ j. a.once x y o i j d e z) n) m;
    }

-- the tree of step k
pub record Grown (c : Case) (k : ℕ) (f : Formula) (M : Labels) (U S : List ℕ) : Type 0 where
  pub formula_is : (c.step k).formula ≡ f
  pub opens_is : M ≡ open_at c k
  pub cited : cites_at c k ≡ true → (x : ℕ) × Among x S × Citing (c.step x).rule
  pub root : Among k S
  pub low : (x : ℕ) → Among x S → x ≤ k
  pub parent : (x : ℕ) → Among x S → (x ≡ k) ⊎ ((y : ℕ) × Among y S × Among x (premises_of c y))
  pub region : Region c U S

-- the trees of the premises ps of step k
record Growing (c : Case) (k : ℕ) (ps : List ℕ) (fs : List Formula) (gs : List HandedOn) : Type 0 where
  formulas_are : map (λ p. (c.step p).formula) ps ≡ fs
  opens_are : all_opens gs ≡ joined (open_at c) ps
  cited_in : Paired (CitedIn c) gs ps
  roots : (p : ℕ) → Among p ps → Among p (all_steps gs)
  earlier : (p : ℕ) → Among p ps → p < k
  distinct : Distinct ps
  split : share c (open_at c) ps ≡ false
  low : (x : ℕ) → Among x (all_steps gs) → x < k
  parent : (x : ℕ) → Among x (all_steps gs) → Among x ps ⊎ ((y : ℕ) × Among y (all_steps gs) × Among x (premises_of c y))
  apart : (x p : ℕ) → Among x (all_steps gs) → Among p (premises_of c x) → Among p ps → ⊥
  region : Region c (all_spent gs) (all_steps gs)

-- where a premise rests on evidence, a step of its tree cites some
cited_among :
    (c : Case) (gs : List HandedOn) (ps : List ℕ) → Paired (CitedIn c) gs ps → (p : ℕ) → Among p ps → cites_at c p ≡ true → (x : ℕ) × Among x (all_steps gs) × Citing (c.step x).rule
cited_among c [] [] w p m e = absurd m
cited_among c [] (q ∷ ps) w p m e = absurd w
cited_among c (g ∷ gs) [] w p m e = absurd w
cited_among c (g ∷ gs) (q ∷ ps) w p (inl is) e = let h = w.0.cited (rw (← is) e) in (h.0, among_append g.steps (all_steps gs) h.0 (inl h.1), h.2)
cited_among c (g ∷ gs) (q ∷ ps) w p (inr m) e = let h = cited_among c gs ps w.1 p m e in (h.0, among_append g.steps (all_steps gs) h.0 (inr h.1), h.2)

spends_own : (c : Case) (k r a o : ℕ) → (c.step k).rule ≡ r → (c.step k).argument ≡ a → Discharges c k o → Among o (spends r a)
unfolding spends rule_of
spends_own c k r a o e q d =
    let h : is_an_obligation (rule_at r).names ≡ true = rw e at d.0 in
    rw h (inl (sym d.1 ∙ q))

pub tests_at :
    {c : Case} {r r' a a' : ℕ} {f f' : Formula} {fs fs' : List Formula} {L L' : Labels} →
    r' ≡ r → f' ≡ f → a' ≡ a → fs' ≡ fs → L' ≡ L → Tests c r f a fs L → Tests c r' f' a' fs' L'
tests_at e q p x y t = rw (e, q, p, x, y) t

leaves_at : {r r' a a' : ℕ} {L L' : Labels} → r' ≡ r → a' ≡ a → L' ≡ L → leaves (rule_at r).effect a L ≡ leaves (rule_at r').effect a' L'
leaves_at e q p = rw (e, q, p)

moved_among : (p : ℕ) {xs ys : List ℕ} → xs ≡ ys → Among p xs → Among p ys
moved_among p e m = subst (λ (l : List ℕ). Among p l) e m

grow_none : (c : Case) (k : ℕ) → Growing c k [] [] []
unfolding joined no_labels share
grow_none c k =
    record {
      formulas_are = refl;
      opens_are = refl;
      cited_in = tt;
      roots = λ p m. m;
      earlier = λ p m. absurd m;
      distinct = tt;
      split = refl;
      low = λ x m. absurd m;
      parent = λ x m. absurd m;
      apart = λ x p m. absurd m;
      region = no_region c;
    }

grow_more :
    (c : Case) {k p : ℕ} {f : Formula} {L : Labels} {ps U S : List ℕ} {fs : List Formula} {gs : List HandedOn} →
    p < k → Grown c p f L U S → Growing c k ps fs gs → LabelsSplit c L (all_opens gs) → ObligationsSplit c U (all_spent gs) → Disjoint S (all_steps gs) →
    Growing c k (p ∷ ps) (f ∷ fs) (record { opens = L; spent = U; steps = S } ∷ gs)
unfolding joined both_sets
grow_more c {k} {p} {f} {L} {ps} {U} {S} {fs} {gs} lt t g ls os ss =
    let T = all_steps gs in
    let at = append_among S T in
    record {
      formulas_are = ap₂ {C = List Formula} ◌∷◌ t.formula_is g.formulas_are;
      opens_are = ap₂ both_sets t.opens_is g.opens_are;
      cited_in = (record { opens_is = t.opens_is; cited = t.cited }, g.cited_in);
      roots = λ q m. among_append S T q (⊎_elim (λ e. inl (rw e t.root)) (λ n. inr (g.roots q n)) m);
      earlier = λ q. ⊎_elim (λ e. rw e lt) (g.earlier q);
      distinct = (λ m. ss p t.root (g.roots p m), g.distinct);
      split = split_share c (open_at c) p ps (rw (← t.opens_is, ← g.opens_are) ls) g.split;
      low = λ x m. ⊎_elim (λ n. let h = t.low x n in omega arith) (g.low x) (at x m);
      parent =
          λ x m.
          ⊎_elim
          (λ n. ⊎_elim (λ e. inl (inl e)) (λ y. inr (y.0, among_append S T y.0 (inl y.1), y.2)) (t.parent x n))
          (λ n. ⊎_elim (λ q. inl (inr q)) (λ y. inr (y.0, among_append S T y.0 (inr y.1), y.2)) (g.parent x n)) (at x m);
      apart =
          λ x q m n w.
          ⊎_elim
          (λ i.
          ⊎_elim (λ e. let h = (t.region.sure x i).earlier q n in let l = t.low x i in omega arith)
          (λ v. ss q (t.region.whole x q i n) (g.roots q v)) w)
          (λ i. ⊎_elim (λ (e : q ≡ p). ss p t.root (rw e at (g.region.whole x q i n))) (λ v. g.apart x q i n v) w) (at x m);
      region = join_regions c U (all_spent gs) S T t.region g.region os ss;
    }

module _ (c : Case) (small : Small c) where
  grow_root :
      {k r a : ℕ} {f : Formula} {fs : List Formula} {gs : List HandedOn} {M : Labels} {ps u : List ℕ} →
      IsStep c k r f a ps → Growing c k ps fs gs → Follows c r f a fs (all_opens gs) M u → ObligationsSplit c u (all_spent gs) → TreesAllowed c r gs →
      Grown c k f M (u ++ all_spent gs) (k ∷ all_steps gs)
  unfolding rests_at rule_of premise_formulas
  grow_root {k} {r} {a} {f} {fs} {gs} {M} {ps} {u} i g w split allowed =
      let fo = followed c small w in
      let ps_are = i.premises_are in
      let opens : joined (open_at c) (premises_of c k) ≡ all_opens gs = ap (joined (open_at c)) ps_are ∙ sym g.opens_are in
      let state_opens : joined (opens_in (state_at c k)) (premises_of c k) ≡ joined (open_at c) (premises_of c k) =
      joined_same (opens_in (state_at c k)) (open_at c) (premises_of c k) (λ p m. opens_at c k p (g.earlier p (moved_among p ps_are m))) in
      let earlier : (p : ℕ) → Among p (premises_of c k) → p < k = λ p m. g.earlier p (moved_among p ps_are m) in
      let number : (c.step k).rule < 16 = rw i.rule_is fo.number in
      let sure : Sure c k =
      record {
        inside = i.inside;
        earlier = earlier;
        distinct = rw ps_are g.distinct;
        local = record {
          number = number;
          policy = rw i.formula_is i.policy;
          closed = rw i.formula_is i.closed;
          tests = tests_at i.rule_is i.formula_is i.argument_is (ap (map (λ p. (c.step p).formula)) ps_are ∙ g.formulas_are) opens fo.tests;
          split = rw ps_are g.split;
          refines = of_allowed c k gs (rw ps_are g.cited_in) (rw i.rule_is allowed);
        };
      } in
      record {
        formula_is = i.formula_is;
        opens_is = fo.opens ∙ leaves_at i.rule_is i.argument_is (state_opens ∙ opens);
        cited =
            λ e.
            ⊎_elim (λ h. (k, inl refl, (citing_is (c.step k).rule number).0 h))
            (λ q. let m = moved_among q.0 ps_are q.1 in let h = cited_among c gs ps g.cited_in q.0 m q.2 in (h.0, inr h.1, h.2))
            (cites_from c k earlier e);
        root = inl refl;
        low = λ x. ⊎_elim (λ e. omega arith) (λ m. let h = g.low x m in omega arith);
        parent =
            λ x.
            ⊎_elim (λ e. inl e)
            (λ m. inr (⊎_elim (λ q. (k, inl refl, moved_among x (sym ps_are) q)) (λ y. (y.0, inr y.1, y.2)) (g.parent x m)));
        region =
            add_root c k u (all_spent gs) (all_steps gs) g.region sure (λ p m. g.roots p (moved_among p ps_are m))
            (λ x p m n q. g.apart x p m n (moved_among p ps_are q))
            (λ o d. rw fo.spent (spends_own c k r a o i.rule_is i.argument_is d)) split;
      }

  pub grown : {k : ℕ} {f : Formula} {M : Labels} {U S : List ℕ} → Proof c k f M U S → Grown c k f M U S
  grown t =
      elim t as (λ k f M U S x. Grown c k f M U S) (λ k ps fs gs x. Growing c k ps fs gs) [
        | by_rule i (ps → h) w s a ↦ grow_root i h w s a
        | no_more {k} ↦ grow_none c k
        | one_more lt (p → h) (ps → g) ls os ss ↦ grow_more c lt h g ls os ss
      ]
