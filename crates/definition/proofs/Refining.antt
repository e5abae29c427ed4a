-- What a step of rule 4 refines by holds without the log: where no step of a tree cites evidence, the tree is one in every case with the same agent and labels that has its steps. By induction on the tree. Assumes nothing.
use Prim.Native.Nat.{ℕ, ◌≤◌, ◌<◌}
use mathlib.Core.Path.{◌≡◌, refl, sym, ap, subst, ◌∙◌}
use mathlib.Core.Bool.{true, false}
use mathlib.Core.Logic.{inl, inr}
use mathlib.Core.List.{List, [], ◌∷◌}
use native.Mathlib.Omega.{arith}
use lib.ListN.{length, length-map}
use lib.Dec.{ltb}
use borrow.Author.Tests.{eq-eqb, ltb-false}
use Rattle.definition.proofs.AdmissionLaws.{admitted_parted}
use Rattle.definition.proofs.Findings.{reported_pass}
use Rattle.definition.proofs.ListLaws.{among_append}
use Rattle.definition.proofs.PartLaws.{same_count}
use Rattle.definition.proofs.Passes.{finding_proved}
use Rattle.definition.proofs.Sound.{tree, handed_by, cites_of_tree, earlier, in_tree_le}
use Rattle.definition.proofs.StateMarks.{rests_at, open_at, rests_at_lem}
use Rattle.definition.proofs.StepLaws.{Local, fine_parts}
use Rattle.definition.proofs.Tautologies.{tautology_same, tautology_of}
use Rattle.definition.proofs.Tests.{and_true, not_both}
use Rattle.definition.proofs.TreeEquality.{same_true}
use Rattle.definition.proofs.AlikeFiles.{same_field}
use Rattle.definition.specs.02-Ranges.{listed}
use Rattle.definition.specs.03-Lists.{Among}
use Rattle.definition.specs.11-Layout.{formula_part, label_part, step_part, premise_part, part}
use Rattle.definition.specs.13-Formulas.{Formula, implies, first_part, second_part, target}
use Rattle.definition.specs.14-Book.{tree_in}
use Rattle.definition.specs.15-Records.{formulas, label_mark, label_formula, step_rule, step_formula, step_argument, step_from, step_count, premise_step}
use Rattle.definition.specs.17-Case.{Case, case_of}
use Rattle.definition.specs.18-Admission.{Parted}
use Rattle.definition.specs.21-Rules.{first, second, refine, rule, rules, rule_at}
use Rattle.definition.specs.22-Steps.{Labels, rests_in, premises_of, premise_formulas, no_tautology, state_at}
use Rattle.definition.specs.31-Outcome.{finding, report, outcome}
use Rattle.definition.specs.42-Account as account
use Rattle.definition.specs.42-Account.{IsStep, IsLabel, Follows, HandedOn, all_spent, all_steps, Citing, Tautology, OfFirst, TreesAllowed, Proof, Proofs, by_rule, no_more, one_more}
use Rattle.definition.specs.44-Demands.{StepsHold}
use Rattle.definition.specs.46-Requests.{SameBookAndLabels, SameSteps, AccountOf, Refines, RefinesWithoutLog, HoldsWithoutLog}

-- Trees from c, in the case d with the agent and the labels of c.
module _ (c d : Case) where
  abbrev there : Case
  there =
      record {
        agent = c.agent;
        action = d.action;
        hour = d.hour;
        rows = d.rows;
        row = d.row;
        conditions = d.conditions;
        condition = d.condition;
        obligations = d.obligations;
        obligation = d.obligation;
        labels = c.labels;
        label = c.label;
        steps = d.steps;
        step = d.step;
        premises = d.premises;
        premise = d.premise;
      }

  label_there : {a m : ℕ} {f : Formula} → IsLabel c a m f → IsLabel there a m f
  label_there l = record { inside = l.inside; mark_is = l.mark_is; formula_is = l.formula_is }

  -- a rule that cites nothing gives the same, and spends nothing
  follows_there :
      {r a : ℕ} {f : Formula} {fs : List Formula} {L M : Labels} {u : List ℕ} → (Citing r → ⊥) → Follows c r f a fs L M u → Follows there r f a fs L M u × (u ≡ [])
  follows_there n (account.suppose l) = (account.suppose (label_there l), refl)
  follows_there n (account.condition_row h e) = absurd (n (inl refl))
  follows_there n (account.seen_row h e k) = absurd (n (inr (inl refl)))
  follows_there n account.say = (account.say, refl)
  follows_there n account.refine = (account.refine, refl)
  follows_there n (account.owner h k e v) = (account.owner h k e v, refl)
  follows_there n account.and_intro = (account.and_intro, refl)
  follows_there n account.and_left = (account.and_left, refl)
  follows_there n account.and_right = (account.and_right, refl)
  follows_there n (account.implies_intro l) = (account.implies_intro (label_there l), refl)
  follows_there n account.implies_elim = (account.implies_elim, refl)
  follows_there n (account.duty_intro l e) = (account.duty_intro (label_there l) e, refl)
  follows_there n (account.duty_by_obligation l e) = absurd (n (inr (inr refl)))
  follows_there n (account.duty_by_label l e o) = (account.duty_by_label (label_there l) e o, refl)
  follows_there n (account.for_all_intro p m o) = (account.for_all_intro p m o, refl)
  follows_there n (account.for_all_elim i) = (account.for_all_elim i, refl)

  -- the steps S cite nothing, and are steps of d
  record Free (S : List ℕ) : Type 0 where
    cites_none : (j : ℕ) → Among j S → Citing (c.step j).rule → ⊥
    same : SameSteps c d S

  free_part : {S T : List ℕ} → ((j : ℕ) → Among j T → Among j S) → Free S → Free T
  free_part in_s f =
      let s = f.same in
      record {
        cites_none = λ j m. f.cites_none j (in_s j m);
        same = record {
          inside = λ j m. s.inside j (in_s j m);
          rule = λ j m. s.rule j (in_s j m);
          formula = λ j m. s.formula j (in_s j m);
          argument = λ j m. s.argument j (in_s j m);
          premises = λ j m. s.premises j (in_s j m);
        };
      }

  tautology_there : {g : HandedOn} → Free g.steps → Tautology c g → Tautology there g
  tautology_there f h = record { cites_none = λ j m q. h.cites_none j m (rw (f.same.rule j m) at q); none_open = h.none_open }

  allowed_there : {r : ℕ} {gs : List HandedOn} → Free (all_steps gs) → TreesAllowed c r gs → TreesAllowed there r gs
  allowed_there {r} {gs} free t = record { refining = λ is. go gs free (t.refining is) }
    where
      go : (hs : List HandedOn) → Free (all_steps hs) → OfFirst (Tautology c) hs → OfFirst (Tautology there) hs
      go [] f h = h
      go (g ∷ hs) f h = tautology_there (free_part (λ j m. among_append g.steps (all_steps hs) j (inl m)) f) h

  -- a tree of such steps
  proof_there : {k : ℕ} {f : Formula} {M : Labels} {U S : List ℕ} → Proof c k f M U S → Free S → Proof there k f M U S × (U ≡ [])
  unfolding premises_of
  proof_there t =
      elim t as (λ k f M U S x. Free S → Proof there k f M U S × (U ≡ [])) (λ k ps fs gs x. Free (all_steps gs) → Proofs there k ps fs gs × (all_spent gs ≡ [])) [
        | by_rule {k} {r} {a} {f} {ps = ns} i (ps → h) w s t ↦
            λ free.
            let same = free.same in
            let above = free_part (λ j m. inr m) free in
            let rest = h above in
            let v = follows_there (λ q. free.cites_none k (inl refl) (rw i.rule_is q)) w in
            let step : IsStep there k r f a ns =
            record {
              inside = same.inside k (inl refl);
              rule_is = same.rule k (inl refl) ∙ i.rule_is;
              formula_is = same.formula k (inl refl) ∙ i.formula_is;
              argument_is = same.argument k (inl refl) ∙ i.argument_is;
              premises_are = same.premises k (inl refl) ∙ i.premises_are;
              policy = i.policy;
              closed = i.closed;
            } in
            (by_rule step rest.0 v.0 (λ o e m n. rw v.1 at m) (allowed_there above t), rw (v.1, rest.1))
        | no_more ↦ λ free. (no_more, refl)
        | one_more {S = S} {gs = gs} lt (p → h) (ps → g) ls os ss ↦
            λ free.
            let one = h (free_part (λ j m. among_append S (all_steps gs) j (inl m)) free) in
            let rest = g (free_part (λ j m. among_append S (all_steps gs) j (inr m)) free) in
            (one_more lt one.0 rest.0 ls (λ o e m n. rw one.1 at m) ss, rw (one.1, rest.1))
      ]

-- A case of another file with the same agent, formulas and labels.
there_is : (s t : List ℕ) → Parted s → SameBookAndLabels s t → there (case_of s) (case_of t) ≡ case_of t
unfolding case_of formulas label_mark label_formula
there_is s t parted b =
    let label = same_field s t label_part b.labels in
    let count = same_count s t parted b.parted label_part (omega arith) b.labels in
    let trees : formulas s ≡ formulas t = rw b.formulas in
    let d = case_of t in
    λ i.
    record {
      agent = b.agent i;
      action = d.action;
      hour = d.hour;
      rows = d.rows;
      row = d.row;
      conditions = d.conditions;
      condition = d.condition;
      obligations = d.obligations;
      obligation = d.obligation;
      labels = count i;
      label = λ k. record { mark = label k 0 i; formula = tree_in (trees i) (label k 2 i) };
      steps = d.steps;
      step = d.step;
      premises = d.premises;
      premise = d.premise;
    }

-- Files with the same steps and premises have the same steps, all of them.
pub same_steps :
    (s t : List ℕ) → Parted s → Parted t → part s formula_part ≡ part t formula_part → part s step_part ≡ part t step_part → part s premise_part ≡ part t premise_part →
    (S : List ℕ) → ((j : ℕ) → Among j S → j < (case_of s).steps) → SameSteps (case_of s) (case_of t) S
unfolding case_of formulas step_rule step_formula step_argument step_from step_count premise_step premises_of
same_steps s t f g book steps premises S low =
    let step = same_field s t step_part steps in
    let premise = same_field s t premise_part premises in
    let trees : formulas s ≡ formulas t = rw book in
    let count = same_count s t f g step_part (omega arith) steps in
    record {
      inside = λ j m. omega (arith, low j m, count);
      rule = λ j m. sym (step j 0);
      formula = λ j m. λ i. tree_in (sym trees i) (sym (step j 2) i);
      argument = λ j m. sym (step j 4);
      premises = λ j m. λ i. listed (λ n. sym (premise n 0) i) (sym (step j 8) i) (sym (step j 6) i);
    }

-- What the tests of a step of rule 4 say.
two : (c : Case) {k : ℕ} → Local c (rests_in (state_at c k)) k → (c.step k).rule ≡ 4 → Refines c k
unfolding premise_formulas rule_at rules rule refine first second
two c {k} l is =
    go (premises_of c k) refl (rw is at l.tests.least) (rw is at l.tests.most) (rw is at l.tests.fits)
  where
    go :
        (ps : List ℕ) → premises_of c k ≡ ps → ltb (length (premise_formulas c k)) 2 ≡ false → ltb 2 (length (premise_formulas c k)) ≡ false →
        refine c (c.step k).formula (c.step k).argument (premise_formulas c k) ≡ true → Refines c k
    go [] e least most fits = absurd (not_both refl (rw e at least))
    go (p ∷ []) e least most fits = absurd (not_both refl (rw e at least))
    go (p ∷ q ∷ []) e least most fits =
        let a = and_true _ _ (rw e at fits) in
        let b = and_true _ _ a.0 in
        record {
          first = p;
          second = q;
          premises_are = e;
          from = first_part (c.step p).formula;
          to = second_part (c.step p).formula;
          target = target (c.step k).formula;
          implication = same_true _ _ b.0;
          refined = same_true _ _ b.1;
          result = same_true _ _ a.1;
        }
    go (p ∷ q ∷ r ∷ ps) e least most fits = absurd (omega (arith, ltb-false 2 (length (premise_formulas c k)) most, ap length e, length-map (premises_of c k) (λ p. (c.step p).formula)))

module _ (s : List ℕ) (parted : Parted s) (fine : StepsHold (case_of s) (case_of s).steps) where
  abbrev c : Case
  c = case_of s

  abbrev few : c.steps ≤ c.steps
  few = omega arith

  refines_without_log : (k : ℕ) → k < c.steps → (c.step k).rule ≡ 4 → RefinesWithoutLog s k
  unfolding no_tautology
  refines_without_log k lt is =
      let l = (fine_parts c k (state_at c k) (fine k lt)).local in
      let w = two c l is in
      let p = w.first in
      let among : Among p (premises_of c k) = rw w.premises_are (inl refl) in
      let below : p < k = earlier c c.steps few fine lt among in
      let t = tree c c.steps few fine k p below (omega arith) in
      let test = rw (eq-eqb (c.step k).rule 4 is, w.premises_are) at (sym (tautology_same c (rests_in (state_at c k)) (rests_at c) k (λ q m. rests_at_lem c k q (earlier c c.steps few fine lt m))) ∙ l.refines) in
      let taut = tautology_of c (handed_by c c.steps few fine t) p (w.second ∷ []) (cites_of_tree c c.steps few fine p (omega arith) t) test in
      let low : (j : ℕ) → Among j t.steps → j ≤ p = λ j m. in_tree_le c c.steps few fine (omega arith) (t.within j m) in
      let account : (u : List ℕ) → SameBookAndLabels s u → SameSteps c (case_of u) t.steps → AccountOf (case_of u) p (implies w.from w.to) t.steps =
      λ u same steps.
      let free : Free c (case_of u) t.steps = record { cites_none = taut.cites_none; same = steps } in
      let h = proof_there c (case_of u) t.proof free in
      let there = tautology_there c (case_of u) {g = record { opens = open_at c p; spent = []; steps = t.steps }} free (record { cites_none = taut.cites_none; none_open = taut.none_open }) in
      subst (λ (d : Case). AccountOf d p (implies w.from w.to) t.steps) (there_is s u parted same)
      (record { opens = open_at c p; proof = rw (w.implication, h.1) at h.0; tautology = there }) in
      record {
        refines = w;
        steps = t.steps;
        above = low;
        here = account s (record { parted = parted; agent = refl; formulas = refl; labels = refl }) (same_steps s s parted parted refl refl refl t.steps (λ j m. omega (arith, low j m)));
        account = account;
      }

pub holds_without_log : HoldsWithoutLog
unfolding outcome report
holds_without_log s room p k lt is =
    let r = reported_pass (finding s (length room)) room p.0 p.1 p.2 in
    let w = (finding_proved s (length room) r.0 r.1 r.2).0 in
    refines_without_log s (admitted_parted s w.admitted) w.proves.fine k lt is
