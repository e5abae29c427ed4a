-- What the tests of step k say of that step alone, given what its premises rest on; and its span. Assumes nothing.
use Prim.Native.Nat.{ℕ, ◌<◌}
use mathlib.Core.Path.{◌≡◌, ◌∙◌}
use mathlib.Core.Bool.{Bool, true, false, not, ◌&&◌}
use native.Mathlib.Omega.{arith}
use lib.ListN.{length, length-map}
use lib.Dec.{eqb, ltb}
use borrow.Author.Tests.{ltb-false, le-ltb, eqb-true, eq-eqb, not-false}
use Rattle.definition.specs.01-Words.{absent}
use Rattle.definition.specs.02-Ranges.{listed}
use Rattle.definition.proofs.CheckLaws.{by_number, both_hold, hold_both}
use Rattle.definition.proofs.Tests.{and_true, and_intro, or_false, not_both, never_true}
use Rattle.definition.specs.13-Formulas.{each_use, is_policy, closed}
use Rattle.definition.specs.41-Occurrences.{Policy, Closed}
use Rattle.definition.proofs.OccurrenceLaws.{policy_is, closed_is}
use Rattle.definition.specs.15-Records.{bad_span}
use Rattle.definition.specs.17-Case.{Case}
use Rattle.definition.proofs.Spans as laws
use Rattle.definition.specs.22-Steps.{State, Rests, rests_in, opens_in, used_in, rule_of, premises_of, must_be_absent, misshapen, is_an_obligation, joined, is_each_use, is_adding, share, used_twice, premise_formulas, misfit, not_fresh, no_tautology, citation_checks, misfit_checks, fit_checks, shape_checks, above_checks, use_checks, step_checks}
use Rattle.definition.specs.42-Account.{SpansAdjoin}
use Rattle.definition.proofs.States.{Fine}
use Rattle.definition.proofs.PremiseLaws.{Usable, premises_usable, usable_premises}
use Rattle.definition.proofs.RangeLaws.{listed_length}
use Rattle.definition.proofs.RuleLaws.{Tests}
use Rattle.definition.proofs.MisfitLaws.{fit_checks_lem}

-- the span of step k, as check 12 tests it
unfoldable pub span_fault : Case → ℕ → Bool
span_fault c k = bad_span (λ j. (c.step j).from) (λ j. (c.step j).len) c.steps c.premises k

-- the shape of step k, the tests of its rule, that its premises share no each-use label, and check 28, where R is what each step rests on
pub record Local (c : Case) (R : ℕ → Rests) (k : ℕ) : Type 0 where
  pub number : (c.step k).rule < 16
  pub policy : Policy (c.step k).formula
  pub closed : Closed (c.step k).formula
  pub tests : Tests c (c.step k).rule (c.step k).formula (c.step k).argument (premise_formulas c k) (joined (λ j. (R j).opens) (premises_of c k))
  pub split : share c (λ j. (R j).opens) (premises_of c k) ≡ false
  pub refines : no_tautology c R k ≡ false

-- an each-use obligation that step k cites was not cited before
abbrev pub SpentOnce : Case → State → ℕ → Type 0
SpentOnce c s k =
    is_an_obligation (rule_of c k).names ≡ true → (c.obligation (c.step k).argument).mark ≡ each_use → s.discharged (c.step k).argument ≡ true → ⊥

premises_length : (c : Case) (k : ℕ) → length (premise_formulas c k) ≡ (c.step k).len
unfolding premise_formulas premises_of
premises_length c k =
    length-map (listed c.premise (c.step k).len (c.step k).from) (λ p. (c.step p).formula)
    ∙ listed_length c.premise (c.step k).len (c.step k).from

-- What check 12 tests of step k, one by one.
pub record WellShaped (c : Case) (k : ℕ) : Type 0 where
  pub number : ltb 15 (c.step k).rule ≡ false
  pub policy : is_policy (c.step k).formula ≡ true
  pub shut : closed (c.step k).formula ≡ true
  pub span : span_fault c k ≡ false
  pub least : ltb (c.step k).len (rule_of c k).least ≡ false
  pub most : ltb (rule_of c k).most (c.step k).len ≡ false
  pub argument : must_be_absent (rule_of c k).names && not (eqb (c.step k).argument absent) ≡ false

pub well_shaped : (c : Case) (k : ℕ) → misshapen c k ≡ false → WellShaped c k
unfolding misshapen span_fault
well_shaped c k e =
    let argument = or_false _ (must_be_absent (rule_of c k).names && not (eqb (c.step k).argument absent)) e in
    let most = or_false _ (ltb (rule_of c k).most (c.step k).len) argument.0 in
    let least = or_false _ (ltb (c.step k).len (rule_of c k).least) most.0 in
    let span = or_false _ (span_fault c k) least.0 in
    let formula = or_false (ltb 15 (c.step k).rule) (not (is_policy (c.step k).formula && closed (c.step k).formula)) span.0 in
    let both = and_true (is_policy (c.step k).formula) (closed (c.step k).formula) (not-false _ formula.1) in
    record { number = formula.0; policy = both.0; shut = both.1; span = span.1; least = least.1; most = most.1; argument = argument.1 }

pub fine_shaped : (c : Case) (k : ℕ) (s : State) → Fine c k s → misshapen c k ≡ false
unfolding step_checks shape_checks
fine_shaped c k s f = f.0

pub record Parts (c : Case) (k : ℕ) (s : State) : Type 0 where
  pub local : Local c (rests_in s) k
  pub usable : Usable (used_in s) k (premises_of c k)
  pub span : span_fault c k ≡ false
  pub once : SpentOnce c s k

pub fine_parts : (c : Case) (k : ℕ) (s : State) → Fine c k s → Parts c k s
unfolding step_checks shape_checks citation_checks above_checks use_checks misfit_checks fit_checks used_twice misfit not_fresh rule_of premise_formulas span_fault
fine_parts c k s f =
    let checks = step_checks c k s in
    let w = well_shaped c k (by_number 12 checks f).0 in
    let u3 = or_false _ (is_adding (rule_of c k).effect && is_each_use c (c.step k).argument && joined (opens_in s) (premises_of c k) (c.step k).argument) (by_number 17 checks f).0 in
    let u2 = or_false (is_an_obligation (rule_of c k).names && eqb (c.obligation (c.step k).argument).mark each_use && s.discharged (c.step k).argument) (share c (opens_in s) (premises_of c k)) u3.0 in
    record {
      local = record {
        number = omega (arith, ltb-false 15 (c.step k).rule w.number);
        policy = (policy_is _).0 w.policy;
        closed = (closed_is _).0 w.shut;
        tests = record {
          least = rw (premises_length c k) w.least;
          most = rw (premises_length c k) w.most;
          argument = w.argument;
          cites = (both_hold (shape_checks c k s) (use_checks c k s) f).0.1.1;
          added = u3.1;
          fits = not-false _ (by_number 18 checks f).0;
          fresh = (by_number 19 checks f).0;
        };
        split = u2.1;
        refines = (by_number 28 checks f).0;
      };
      usable = premises_usable (used_in s) k (premises_of c k) (by_number 13 checks f).0;
      span = w.span;
      once = λ n m d. not_both (and_intro (and_intro n (eq-eqb _ each_use m)) d) u2.0;
    }

pub parts_fine : (c : Case) (k : ℕ) (s : State) → Parts c k s → Fine c k s
unfolding step_checks shape_checks citation_checks above_checks use_checks misfit_checks fit_checks misshapen used_twice misfit not_fresh rule_of premise_formulas span_fault
parts_fine c k s p =
    let l = p.local in
    let t = l.tests in
    let least : ltb (c.step k).len (rule_of c k).least ≡ false = rw (premises_length c k) at t.least in
    let most : ltb (rule_of c k).most (c.step k).len ≡ false = rw (premises_length c k) at t.most in
    let spent : is_an_obligation (rule_of c k).names && eqb (c.obligation (c.step k).argument).mark each_use && s.discharged (c.step k).argument ≡ false =
    never_true _ (λ e. let a = and_true _ (s.discharged (c.step k).argument) e in let b = and_true _ (eqb (c.obligation (c.step k).argument).mark each_use) a.0 in p.once b.0 (eqb-true _ each_use b.1) a.1) in
    let shape : misshapen c k ≡ false =
    rw (le-ltb 15 (c.step k).rule (omega (arith, l.number)), (policy_is _).1 l.policy, (closed_is _).1 l.closed, p.span, least, most) t.argument in
    let taken = usable_premises (used_in s) k (premises_of c k) p.usable in
    hold_both (shape_checks c k s) (use_checks c k s)
    (shape, (taken, t.cites))
    (rw (spent, l.split) t.added, hold_both (fit_checks c k) (above_checks c k s) ((fit_checks_lem c k).1 (rw t.fits)) (t.fresh, (l.refines, tt)))

-- the spans of all steps adjoin and cover just if none is at fault
pub spans_adjoin : (c : Case) → ((k : ℕ) → k < c.steps → span_fault c k ≡ false) → SpansAdjoin c
unfolding span_fault
spans_adjoin c h =
    let a = laws.spans_adjoin (λ j. (c.step j).from) (λ j. (c.step j).len) c.steps c.premises h in
    record { first = a.first; next = a.next; last = a.last }

pub adjoin_spans : (c : Case) → SpansAdjoin c → (k : ℕ) → k < c.steps → span_fault c k ≡ false
unfolding span_fault
adjoin_spans c a =
    laws.adjoin_spans (λ j. (c.step j).from) (λ j. (c.step j).len) c.steps c.premises
    (record { first = a.first; next = a.next; last = a.last })
