-- The tests of one step say what the sixteen rules say: rule by rule, there and back. Assumes nothing.
use Prim.Native.Nat.{ℕ, ◌≤◌, ◌<◌}
use mathlib.Core.Path.{◌≡◌, refl, sym, ap, ap₂, ◌∙◌, subst, subst₃}
use mathlib.Core.Bool.{Bool, true, false, cond, not, and-false, ◌&&◌, ◌||◌}
use mathlib.Core.Logic.{inl, inr, ⊎_elim, ◌↔◌}
use mathlib.Core.Option.{Option, none, some}
use mathlib.Core.List.{List, [], ◌∷◌, map}
use native.Mathlib.Omega.{arith}
use lib.ListN.{length, length-map}
use lib.Dec.{eqb, ltb}
use borrow.Author.Tests.{ltb-true, ltb-false, lt-ltb, le-ltb, eqb-true, eq-eqb, ne_eqb, not-true, not-false}
use Rattle.definition.proofs.ConclusionLaws.{drawn, concluded}
use Rattle.definition.proofs.DataLaws.{data_ascend, data_among}
use Rattle.definition.proofs.ListLaws.{ascending_unique}
use Rattle.definition.proofs.OccurrenceLaws.{mentions_is, mentions_not, data_variable_is, parameter_is, instance_is}
use Rattle.definition.proofs.RangeLaws.{any_false, any_none, each_at}
use Rattle.definition.proofs.Tests.{and_true, and_intro, or_true, or_false, not_both, never_true}
use Rattle.definition.proofs.TreeEquality.{same_true, same_of, same_refl}
use Rattle.definition.specs.01-Words.{absent}
use Rattle.definition.specs.02-Ranges.{any}
use Rattle.definition.specs.12-Terms.{Sort, class_of, is_object, is_parameter, is_instance}
use Rattle.definition.specs.13-Formulas.{Formula, owns, says, for_all, implies, after, each_use, once, same, this_term, has, data_of, first_part, second_part, source, target, sort_of}
use Rattle.definition.specs.15-Records.{is_duty}
use Rattle.definition.specs.16-Views.{RowView, hidden, struck, shows}
use Rattle.definition.specs.04-Checks.{AllHold}
use Rattle.definition.specs.17-Case.{Case}
use Rattle.definition.specs.21-Rules.{first, second, is_that, same_all, conclusion, row_conclusion, suppose, condition_row, seen_row, say, refine, owner, and_intro as and_intro_test, and_left, and_right, implies_intro, implies_elim, duty_intro, duty_by_obligation, duty_by_label, admits_parameter, admits_term, body_with, for_all_intro, for_all_elim, rule, rules, rule_at}
use Rattle.definition.specs.22-Steps.{Labels, citation_checks, must_be_absent, is_none, cites_absent, cites_nothing, is_a_row, is_an_obligation, is_hidden, is_struck, cites_hidden, cites_struck, is_each_use, is_adding, leaves}
use Rattle.definition.specs.41-Occurrences.{Mentions, MentionsDataVariable, Instance}
use Rattle.definition.specs.42-Account as account
use Rattle.definition.specs.42-Account.{IsLabel, Duty, DataAre, Follows, with_label, without_label}

-- the tests of a step of rule r with formula f, argument a and premises' formulas fs, which leave L open
pub record Tests (c : Case) (r : ℕ) (f : Formula) (a : ℕ) (fs : List Formula) (L : Labels) : Type 0 where
  pub least : ltb (length fs) (rule_at r).least ≡ false
  pub most : ltb (rule_at r).most (length fs) ≡ false
  pub argument : must_be_absent (rule_at r).names && not (eqb a absent) ≡ false
  pub cites : AllHold (citation_checks c (rule_at r).names a 0)
  pub added : is_adding (rule_at r).effect && is_each_use c a && L a ≡ false
  pub fits : (rule_at r).fits c f a fs ≡ true
  pub fresh : eqb r 14 && (has (this_term a) 0 f || any (λ l. L l && has (this_term a) 0 (c.label l).formula) c.labels 0) ≡ false

-- the obligations that a step of rule r spends
unfoldable pub spends : ℕ → ℕ → List ℕ
spends r a = cond (is_an_obligation (rule_at r).names) (a ∷ []) []

-- what the tests of a step amount to
abbrev pub Step-follows : Case → (r : ℕ) (f : Formula) (a : ℕ) (fs : List Formula) (L : Labels) → Type 0
Step-follows c r f a fs L = Follows c r f a fs L (leaves (rule_at r).effect a L) (spends r a)

moved :
    {c : Case} {r a b : ℕ} {f g : Formula} {fs gs : List Formula} {L M : Labels} {u : List ℕ} →
    f ≡ g → a ≡ b → fs ≡ gs → Follows c r g b gs L M u → Follows c r f a fs L M u
moved {c} {r} {L} {M} {u} e q p h = subst₃ (λ (f : Formula) (a : ℕ) (fs : List Formula). Follows c r f a fs L M u) (sym e) (sym q) (sym p) h

-- lists of no, one and two formulas, by the tests of their length
none_of : (fs : List Formula) → ltb 0 (length fs) ≡ false → fs ≡ []
none_of [] h = refl
none_of (f ∷ fs) h = absurd (omega (arith, ltb-false 0 (length (f ∷ fs)) h))

one_of : (fs : List Formula) {g : Formula} → ltb (length fs) 1 ≡ false → ltb 1 (length fs) ≡ false → first fs ≡ g → fs ≡ g ∷ []
unfolding first
one_of [] h k e = absurd (omega (arith, ltb-false 0 1 h))
one_of (f ∷ []) h k e = cc
one_of (f ∷ g ∷ fs) h k e = absurd (omega (arith, ltb-false 1 (length (f ∷ g ∷ fs)) k))

two_of : (fs : List Formula) {g e : Formula} → ltb (length fs) 2 ≡ false → ltb 2 (length fs) ≡ false → first fs ≡ g → second fs ≡ e → fs ≡ g ∷ e ∷ []
unfolding first second
two_of [] h k p q = absurd (omega (arith, ltb-false 0 2 h))
two_of (f ∷ []) h k p q = absurd (omega (arith, ltb-false 1 2 h))
two_of (f ∷ g ∷ []) h k p q = cc
two_of (f ∷ g ∷ e ∷ fs) h k p q = absurd (omega (arith, ltb-false 2 (length (f ∷ g ∷ e ∷ fs)) k))

absent_is : (a : ℕ) → not (eqb a absent) ≡ false → a ≡ absent
absent_is a e = eqb-true a absent (not-false (eqb a absent) e)

pub duty_is : (m : ℕ) → (is_duty m ≡ true) ↔ Duty m
unfolding is_duty
duty_is m = (
  λ e. ⊎_elim (λ h. inl (eqb-true m each_use h)) (λ h. inr (eqb-true m once h)) (or_true (eqb m each_use) (eqb m once) e),
  ⊎_elim (λ e. rw e) (λ e. rw e),
)

shown : (v : RowView) → is_hidden v ≡ false → is_struck v ≡ false → (g : Formula) × (v ≡ shows g)
unfolding is_hidden is_struck
shown hidden h s = absurd (not_both refl h)
shown struck h s = absurd (not_both refl s)
shown (shows g) h s = (g, refl)

pub that_is : (f : Formula) (o : Option Formula) → is_that f o ≡ true → o ≡ some f
unfolding is_that
that_is f none e = absurd (not_both e refl)
that_is f (some g) e = ap some (sym (same_true f g e))

pub same_all_lem : (fs gs : List Formula) → (same_all fs gs ≡ true) ↔ (fs ≡ gs)
unfolding same_all
same_all_lem [] [] = (λ e. refl, λ e. refl)
same_all_lem [] (g ∷ gs) = (λ e. absurd (not_both e refl), λ e. cc)
same_all_lem (f ∷ fs) [] = (λ e. absurd (not_both e refl), λ e. cc)
same_all_lem (f ∷ fs) (g ∷ gs) = (
  λ e. let h = and_true (same f g) (same_all fs gs) e in ap₂ {C = List Formula} ◌∷◌ (same_true f g h.0) ((same_all_lem fs gs).0 h.1),
  λ e. and_intro (same_of f g (cc)) ((same_all_lem fs gs).1 (cc)),
)

-- an entry that check 15 lets pass is there
pub inside : (a n : ℕ) → not (ltb a n) ≡ false → a < n
inside a n e = ltb-true a n (not-false (ltb a n) e)

there : {a n : ℕ} → a < n → not (ltb a n) ≡ false
there {a} {n} h = rw (lt-ltb a n h)

data_are : (f : Formula) → DataAre f (data_of f)
data_are f = record { ascending = data_ascend f; exactly = data_among f }

-- the numbers of the rules, one by one
pub data Numbered : ℕ → Type 0 where
  rule_0 : Numbered 0
  rule_1 : Numbered 1
  rule_2 : Numbered 2
  rule_3 : Numbered 3
  rule_4 : Numbered 4
  rule_5 : Numbered 5
  rule_6 : Numbered 6
  rule_7 : Numbered 7
  rule_8 : Numbered 8
  rule_9 : Numbered 9
  rule_10 : Numbered 10
  rule_11 : Numbered 11
  rule_12 : Numbered 12
  rule_13 : Numbered 13
  rule_14 : Numbered 14
  rule_15 : Numbered 15

pub numbered : (r : ℕ) → r < 16 → Numbered r
numbered r lt = each_at Numbered 16 0 (rule_0, (rule_1, (rule_2, (rule_3, (rule_4, (rule_5, (rule_6, (rule_7, (rule_8, (rule_9, (rule_10, (rule_11, (rule_12, (rule_13, (rule_14, (rule_15, tt)))))))))))))))) r (omega arith) (omega arith)

-- What the tests of a step say, rule by rule.
module _ (c : Case) (f : Formula) (a : ℕ) (fs : List Formula) (L : Labels) where
  the_label : {m : ℕ} {g : Formula} → not (ltb a c.labels) ≡ false → (c.label a).mark ≡ m → (c.label a).formula ≡ g → IsLabel c a m g
  the_label e m g = record { inside = inside _ _ e; mark_is = m; formula_is = g }

  follows : {r : ℕ} → Numbered r → Tests c r f a fs L → Step-follows c r f a fs L
  unfolding rule_at rules rule suppose cites_nothing citation_checks leaves spends is_an_obligation with_label condition_row seen_row cites_hidden cites_struck is_a_row row_conclusion say must_be_absent refine owner and_intro_test and_left and_right implies_intro without_label implies_elim duty_intro duty_by_obligation duty_by_label is_adding is_each_use admits_parameter admits_term body_with for_all_intro for_all_elim
  follows rule_0 t =
      let h = and_true _ _ t.fits in
      moved refl refl (none_of fs t.most) (account.suppose (the_label t.cites.1.0 (eqb-true _ _ h.0) (sym (same_true _ _ h.1))))
  follows rule_1 t = moved refl refl (none_of fs t.most) (account.condition_row (inside _ _ t.cites.1.0) (that_is f (c.condition a) t.fits))
  follows rule_2 t =
      let v = shown (c.row a) t.cites.1.1.0 t.cites.1.1.1.0 in
      let e : conclusion c.agent v.0 ≡ some f = that_is f _ (rw v.1 at t.fits) in
      moved refl refl (none_of fs t.most) (account.seen_row (inside _ _ t.cites.1.0) v.1 ((drawn c.agent v.0 f).0 e))
  follows rule_3 t = moved refl (absent_is a t.argument) (one_of fs t.least t.most (same_true _ _ t.fits)) account.say
  follows rule_4 t =
      let h = and_true _ _ t.fits in
      let g = and_true _ _ h.0 in
      moved (same_true _ _ h.1) (absent_is a t.argument) (two_of fs t.least t.most (same_true _ _ g.0) (same_true _ _ g.1)) account.refine
  follows rule_5 t =
      let h = and_true _ _ t.fits in
      let g = and_true _ _ h.0 in
      let e : f ≡ says c.agent (first_part f) (target f) = same_true _ _ g.0 in
      let ls : fs ≡ map (owns c.agent) (data_of f) = (same_all_lem _ _).0 h.1 in
      let n : length fs ≡ length (data_of f) = ap length ls ∙ length-map (data_of f) (owns c.agent) in
      moved e (absent_is a t.argument) ls
      (account.owner (omega (arith, ltb-false (length fs) 1 t.least)) (omega (arith, ltb-false 16 (length fs) t.most))
      (subst (λ (g : Formula). DataAre g (data_of f)) e (data_are f))
      (subst (λ (g : Formula). MentionsDataVariable g → ⊥) e ((data_variable_is f).0 (not-true _ g.1))))
  follows rule_6 t = moved (same_true _ _ t.fits) (absent_is a t.argument) (two_of fs t.least t.most refl refl) account.and_intro
  follows rule_7 t = moved refl (absent_is a t.argument) (one_of fs t.least t.most (same_true _ _ t.fits)) account.and_left
  follows rule_8 t = moved refl (absent_is a t.argument) (one_of fs t.least t.most (same_true _ _ t.fits)) account.and_right
  follows rule_9 t =
      let h = and_true _ _ t.fits in
      moved (same_true _ _ h.1) refl (one_of fs t.least t.most refl) (account.implies_intro (the_label t.cites.1.0 (eqb-true _ _ h.0) refl))
  follows rule_10 t = moved refl (absent_is a t.argument) (two_of fs t.least t.most (same_true _ _ t.fits) refl) account.implies_elim
  follows rule_11 t =
      let h = and_true _ _ t.fits in
      moved (same_true _ _ h.1) refl (one_of fs t.least t.most refl) (account.duty_intro (the_label t.cites.1.0 refl refl) ((duty_is _).0 h.0))
  follows rule_12 t =
      let h = and_true _ _ t.fits in
      moved refl refl (one_of fs t.least t.most (same_true _ _ h.1)) (account.duty_by_obligation (record { inside = inside _ _ t.cites.1.0; mark_is = refl; formula_is = refl }) ((duty_is _).0 h.0))
  follows rule_13 t =
      let h = and_true _ _ t.fits in
      moved refl refl (one_of fs t.least t.most (same_true _ _ h.1))
      (account.duty_by_label (the_label t.cites.1.0 refl refl) ((duty_is _).0 h.0)
      (λ e o. not_both (and_intro (eq-eqb _ each_use e) o) t.added))
  follows rule_14 t =
      let h = and_true _ _ t.fits in
      let g = and_true _ _ h.0 in
      let e : f ≡ for_all (sort_of f) (first_part f) = same_true _ _ g.0 in
      let w = or_false _ _ t.fresh in
      moved e refl (one_of fs t.least t.most (same_true _ _ h.1))
      (account.for_all_intro ((parameter_is _ a).0 g.1)
      (subst (λ (g : Formula). Mentions a g → ⊥) e ((mentions_not a f).0 w.0))
      (λ l lt o m. not_both (and_intro o ((mentions_is a _).1 m)) (any_false _ c.labels 0 w.1 l (omega arith) (omega arith))))
  follows rule_15 t =
      let h = and_true _ _ t.fits in
      let g = and_true _ _ h.0 in
      moved (same_true _ _ h.1) refl (one_of fs t.least t.most (same_true _ _ g.0)) (account.for_all_elim ((instance_is _ a).0 g.1))

pub tests_follow : (c : Case) (r : ℕ) (f : Formula) (a : ℕ) (fs : List Formula) (L : Labels) → r < 16 → Tests c r f a fs L → Step-follows c r f a fs L
tests_follow c r f a fs L lt = follows c f a fs L (numbered r lt)

-- no part of the case has so many records that an absent number could name one
pub record Small (c : Case) : Type 0 where
  pub conditions : c.conditions ≤ absent
  pub rows : c.rows ≤ absent
  pub obligations : c.obligations ≤ absent
  pub labels : c.labels ≤ absent

not_absent : {a n : ℕ} → a < n → n ≤ absent → eqb a absent ≡ false
not_absent {a} h k = ne_eqb a absent (λ e. omega arith)

-- Checks 14 to 16, where the argument names nothing, an entry of a label or an obligation that is there, or a term.
abbrev Four : (p q r s : Bool) → Type 0
Four p q r s = (p ≡ false) × ((q ≡ false) × ((r ≡ false) × ((s ≡ false) × Unit {0})))

none_cited : Four false false false false
none_cited = (refl, (refl, (refl, (refl, tt))))

entry_cited : {a n : ℕ} → a < n → n ≤ absent → Four (eqb a absent) (not (ltb a n)) false false
entry_cited h k = (not_absent h k, (there h, (refl, (refl, tt))))

term_cited : (a : ℕ) {σ : Sort} → Instance σ a → Four (eqb a absent) false false false
unfolding class_of is_instance is_object is_parameter
term_cited a {σ} i = (ne_eqb a absent (λ e. not_both ((instance_is σ a).1 i) (rw e)), (refl, (refl, (refl, tt))))

-- a duty over the mark and the action of an entry fits
duty_fits : {n m : ℕ} {act f : Formula} (g : Formula) → n ≡ m → f ≡ act → Duty m → is_duty n && same (after m act g) (after n f g) ≡ true
duty_fits {n} {m} {act} {f} g e q d = and_intro ((duty_is n).1 (rw e d)) (same_of (after m act g) (after n f g) (rw (e, q)))

data_unique : {f : Formula} {ds : List ℕ} → DataAre f ds → ds ≡ data_of f
data_unique {f} {ds} d =
    ascending_unique ds (data_of f) d.ascending (data_ascend f) (λ x. (λ h. (data_among f x).1 ((d.exactly x).0 h), λ h. (d.exactly x).1 ((data_among f x).0 h)))

-- what a rule says of its step: the rule's number, what it leaves open and spends, and that the tests find no fault
pub record Followed (c : Case) (r : ℕ) (f : Formula) (a : ℕ) (fs : List Formula) (L M : Labels) (u : List ℕ) : Type 0 where
  pub number : r < 16
  pub opens : M ≡ leaves (rule_at r).effect a L
  pub spent : u ≡ spends r a
  pub tests : Tests c r f a fs L

-- All tests of a step but what it cites and whether it fits. At most rules they compute, and `refl` says that they find no fault.
faulty : Case → (r : ℕ) (f : Formula) (a : ℕ) (fs : List Formula) (L : Labels) → Bool
faulty c r f a fs L =
    not (ltb r 16)
    || ltb (length fs) (rule_at r).least
    || ltb (rule_at r).most (length fs)
    || (must_be_absent (rule_at r).names && not (eqb a absent))
    || (is_adding (rule_at r).effect && is_each_use c a && L a)
    || (eqb r 14 && (has (this_term a) 0 f || any (λ l. L l && has (this_term a) 0 (c.label l).formula) c.labels 0))

-- A step by rule r follows: its other tests find no fault, what it cites is there, and it fits.
by :
    {c : Case} {r : ℕ} {f : Formula} {a : ℕ} {fs : List Formula} {L : Labels} →
    faulty c r f a fs L ≡ false → AllHold (citation_checks c (rule_at r).names a 0) → (rule_at r).fits c f a fs ≡ true →
    Followed c r f a fs L (leaves (rule_at r).effect a L) (spends r a)
unfolding faulty
by {r} e cites fits =
    let fresh = or_false _ _ e in
    let added = or_false _ _ fresh.0 in
    let argument = or_false _ _ added.0 in
    let most = or_false _ _ argument.0 in
    let least = or_false _ _ most.0 in
    record {
      number = inside r 16 least.0;
      opens = refl;
      spent = refl;
      tests = record { least = least.1; most = most.1; argument = argument.1; cites = cites; added = added.1; fits = fits; fresh = fresh.1 };
    }

pub followed :
    (c : Case) → Small c → {r a : ℕ} {f : Formula} {fs : List Formula} {L M : Labels} {u : List ℕ} →
    Follows c r f a fs L M u → Followed c r f a fs L M u
unfolding rule_at rules rule must_be_absent cites_absent cites_nothing cites_hidden cites_struck is_a_row citation_checks is_adding leaves spends is_an_obligation is_none is_hidden is_struck is_each_use with_label without_label first second first_part second_part source target sort_of suppose condition_row seen_row say refine owner and_intro_test and_left and_right implies_intro implies_elim duty_intro duty_by_obligation duty_by_label admits_parameter admits_term body_with for_all_intro for_all_elim is_that row_conclusion faulty
followed c small (account.suppose l) =
    by (rw l.mark_is) (entry_cited l.inside small.labels) (and_intro (eq-eqb _ 0 l.mark_is) (same_of _ _ (sym l.formula_is)))
followed c small (account.condition_row {a} {f} h e) =
    by refl (rw (not_absent h small.conditions, e) (and-false (ltb a c.conditions)), (there h, (refl, (refl, tt)))) (rw e (same_refl f))
followed c small (account.seen_row {f} h e k) =
    by refl (not_absent h small.rows, (there h, (rw e, (rw e, tt)))) (rw (e, concluded k) (same_refl f))
followed c small account.say = by refl none_cited (same_refl _)
followed c small account.refine = by refl none_cited (and_intro (and_intro (same_refl _) (same_refl _)) (same_refl _))
followed c small (account.owner {b} {f} {ds} h k d v) =
    let n = length-map ds (owns c.agent) in
    by (rw (n, le-ltb (length ds) 1 h, le-ltb 16 (length ds) k)) none_cited
    (and_intro (and_intro (same_refl _) (rw ((data_variable_is (says c.agent f b)).1 v))) ((same_all_lem _ _).1 (ap (map (owns c.agent)) (data_unique d))))
followed c small account.and_intro = by refl none_cited (same_refl _)
followed c small account.and_left = by refl none_cited (same_refl _)
followed c small account.and_right = by refl none_cited (same_refl _)
followed c small (account.implies_intro {g} l) =
    by refl (entry_cited l.inside small.labels) (and_intro (eq-eqb _ 0 l.mark_is) (same_of _ _ (ap (λ (h : Formula). implies h g) (sym l.formula_is))))
followed c small account.implies_elim = by refl none_cited (same_refl _)
followed c small (account.duty_intro l d) =
    by refl (entry_cited l.inside small.labels) (duty_fits _ l.mark_is l.formula_is d)
followed c small (account.duty_by_obligation l d) =
    by refl (entry_cited l.inside small.obligations) (duty_fits _ l.mark_is l.formula_is d)
followed c small (account.duty_by_label {a} {m} {L} l d n) =
    let closed : eqb (c.label a).mark each_use && L a ≡ false = never_true _ (λ e. let h = and_true _ _ e in n (sym l.mark_is ∙ eqb-true (c.label a).mark each_use h.0) h.1) in
    by (rw closed) (entry_cited l.inside small.labels) (duty_fits _ l.mark_is l.formula_is d)
followed c small (account.for_all_intro {a} {σ} {f} {L} p n o) =
    let none_open : any (λ l. L l && has (this_term a) 0 (c.label l).formula) c.labels 0 ≡ false = any_none _ c.labels 0 (λ l from to. never_true _ (λ e. let h = and_true (L l) _ e in o l (omega arith) h.0 ((mentions_is a _).0 h.1))) in
    by (rw ((mentions_not a (for_all σ f)).1 n, none_open)) (term_cited a (inr p)) (and_intro (and_intro (same_refl _) ((parameter_is σ a).1 p)) (same_refl _))
followed c small (account.for_all_elim {a} {σ} i) =
    by refl (term_cited a i) (and_intro (and_intro (same_refl _) ((instance_is σ a).1 i)) (same_refl _))
