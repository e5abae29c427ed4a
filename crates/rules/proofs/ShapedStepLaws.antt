-- A step that checks 12 to 16 have let pass: its formula and its premises are there, and its rule's test is that of the definition. Assumes nothing.
use Prim.Native.Nat.{ℕ, zero, suc, ◌+◌, ◌≤◌, ◌<◌}
use mathlib.Core.Path.{◌≡◌, refl, sym, ap, ap₂, ◌∙◌}
use mathlib.Core.Bool.{Bool, true, false, not, ◌&&◌}
use mathlib.Core.Logic.{⊎_elim}
use mathlib.Core.List.{List, [], ◌∷◌, map}
use native.Mathlib.Omega.{arith}
use borrow.Author.Tests.{ltb-false, ne_eqb, not-true, not-false}
use Rattle.std.specs.Prelude.{Ok, Err}
use Rattle.definition.specs.02-Ranges.{listed}
use Rattle.definition.specs.04-Checks.{Checked, accepts, ◌>>◌, try, single, in_order}
use Rattle.definition.proofs.CheckLaws.{then_goes_on, then_accepts, then_refuses, try_holds, never_both, hold_all}
use Rattle.definition.proofs.MisfitLaws.{fit_checks_lem}
use Rattle.definition.proofs.StepLaws.{span_fault, well_shaped}
use Rattle.definition.specs.13-Formulas.{is_policy, data_variable, has}
use Rattle.definition.specs.14-Book.{tree_in, book as trees, stray_row}
use Rattle.definition.specs.11-Layout.{formula_part, step_part, premise_part, count, agent_of}
use Rattle.definition.specs.15-Records.{formulas, step_rule, step_formula, step_from, step_count, premise_step}
use Rattle.definition.specs.17-Case.{Case, case_of}
use Rattle.case_file.proofs.Laws.{formula_named}
use Rattle.definition.proofs.Spans.{span_holds}
use Rattle.definition.specs.21-Rules.{Names, first, owner, admits_parameter, admits_term, is_other_kind, is_other_party, any_faulty, for_all_intro, for_all_elim, other_premise, other_formula, no_instance, rule, rules, rule_at}
use Rattle.definition.specs.22-Steps.{rule_of, premises_of, misshapen, stray_variable, premise_formulas, wrong_kind, wrong_party, wrong_instance, misfit, misfit_checks, fit_checks}
use Rattle.case_file.specs.LentCase.{Lent, Numbered}
use Rattle.case_parts.specs.Records.{StepFields}
use Rattle.case_parts.specs.ShapedSteps.{CitedEntry, ShapedStep}
use Rattle.formula_book.specs.DataAnswers.{stray_or, by_stray}
use Rattle.rules.specs.Misfits.{fit_run}
use Rattle.rules.specs.PremiseFormulas.{PremiseThere, PremisesThere, premise_trees}
use Rattle.case_parts.specs.declared.records.Step.{Step}
use Rattle.case_file.proofs.LentCaseLaws.{parted, steps_few, numbered}
use Rattle.rules.proofs.CitedFormulas.{named}
use Rattle.words.specs.declared.runs.Refusal.{Refusal}
use Rattle.words.specs.Meanings.{run_meant}
use Rattle.words.proofs.CheckRuns.{checks_stop, checks_go_on}
use Rattle.rules.proofs.RuleNumbers.{EntryIn, entry_in, some_premise, no_instance_lem}
use Rattle.rules.proofs.StrayRuns.{stray_run}

map_listed : {A B : Type 0} (f : A → B) (g : ℕ → A) (n i : ℕ) → map f (listed g n i) ≡ listed (λ j. f (g j)) n i
unfolding listed
map_listed f g zero i = refl
map_listed {B} f g (suc n) i = ap {B = List B} (λ l. f (g i) ∷ l) (map_listed f g n (i + 1))

not_not : (b : Bool) → b ≡ not (not b)
not_not true = refl
not_not false = refl

-- An argument that is admitted, where the rule does not fit: it is another instance.
admitted_other : (admits is : Bool) → admits && is ≡ false → admits ≡ admits && not is
admitted_other true is e = sym (ap not e)
admitted_other false is e = refl

-- What check 12 tests of step k, one by one.
pub record Shaped (s : List ℕ) (k : ℕ) : Type 0 where
  pub number : step_rule s k < 16
  pub policy : is_policy (tree_in (formulas s) (step_formula s k)) ≡ true
  pub span : step_from s k + step_count s k ≤ count s premise_part
  pub least : (rule_at (step_rule s k)).least ≤ step_count s k
  pub most : step_count s k ≤ (rule_at (step_rule s k)).most

pub shaped : (s : List ℕ) (k : ℕ) → misshapen (case_of s) k ≡ false → Shaped s k
unfolding rule_of case_of span_fault
shaped s k e =
    let w = well_shaped (case_of s) k e in
    record {
      number = omega (arith, ltb-false 15 (step_rule s k) w.number);
      policy = w.policy;
      span = (span_holds (step_from s) (step_count s) (count s step_part) (count s premise_part) k w.span).within;
      least = ltb-false (step_count s k) (rule_at (step_rule s k)).least w.least;
      most = ltb-false (rule_at (step_rule s k)).most (step_count s k) w.most;
    }

-- A well-shaped step has a formula of the book.
pub formula_inside : {s b : List ℕ} (k : ℕ) → Lent s b → misshapen (case_of s) k ≡ false → step_formula s k < count s formula_part
unfolding is_policy
formula_inside {s} k lent fine = formula_named s lent.admitted (step_formula s k) is_policy refl (shaped s k fine).policy

module _ {s b : List ℕ} {k : ℕ} (lent : Lent s b) (st : ShapedStep s k) {t : Step} (is : StepFields s k t) where
  shape : Shaped s k
  shape = shaped s k st.shaped

  pub rule_number : t.rule < 16
  rule_number = omega (arith, shape.number, is.rule)

  pub least_premises : (rule_at t.rule).least ≤ t.len
  least_premises = rw (is.rule, is.len) shape.least

  pub most_premises : t.len ≤ (rule_at t.rule).most
  most_premises = rw (is.rule, is.len) shape.most

  pub own_numbered : Numbered b t.formula
  own_numbered = rw is.formula (numbered lent (formula_inside k lent st.shaped))

  pub own_policy : is_policy (tree_in (trees b) t.formula) ≡ true
  own_policy = ap is_policy (named lent is.formula) ∙ shape.policy

  pub premises_there : PremisesThere s t.from t.len
  premises_there j from to =
      let below = st.premises j (omega (arith, is.from, from)) (omega (arith, is.from, is.len, to)) in
      record {
        entry = omega (arith, is.from, is.len, to, shape.span);
        step = omega (arith, below, st.inside);
        formula = st.earlier (premise_step s j) below;
      }

  pub cites : CitedEntry (case_of s) (rule_at t.rule).names t.argument
  unfolding rule_of case_of
  cites = rw (is.rule, is.argument) st.cites

  -- The premises' formulas, and the tests of the rule, on what was read of the step.
  pub premises_are : premise_trees s t.from t.len ≡ premise_formulas (case_of s) k
  unfolding premise_formulas premises_of case_of premise_trees
  premises_are = rw (is.from, is.len) (sym (map_listed (λ p. tree_in (formulas s) (step_formula s p)) (premise_step s) (step_count s k) (step_from s k)))

  pub rule_is : rule_at t.rule ≡ rule_of (case_of s) k
  unfolding rule_of case_of
  rule_is = ap rule_at is.rule

  pub fits_is :
      (rule_at t.rule).fits (case_of s) (tree_in (trees b) t.formula) t.argument (premise_trees s t.from t.len) ≡ not (misfit (case_of s) k)
  unfolding misfit case_of
  fits_is = rw (rule_is, named lent is.formula, is.argument, premises_are) (not_not _)

  -- What a step of rule r cites is there, by what the rule's argument names.
  pub cited : (n : Names) (r : ℕ) → t.rule ≡ r → (rule_at r).names ≡ n → EntryIn s n t.argument
  cited n r e names = entry_in s t.argument n (rw (← names, ← e) cites)

  -- The premises of a rule that has them.
  pub first_premise : 2 < t.rule → PremiseThere s t.from
  first_premise above = premises_there t.from (omega arith) (let some = some_premise t.rule above rule_number in let least = least_premises in omega arith)

  pub second_premise : (r : ℕ) → t.rule ≡ r → (rule_at r).least ≡ 2 → PremiseThere s (t.from + 1)
  second_premise r e two = premises_there (t.from + 1) (omega arith) (let least : 2 ≤ t.len = rw (← two, ← e) least_premises in omega arith)

  -- The answer q of the test of rule r, with the number of premises that the rule has.
  module _ (r : ℕ) (e : t.rule ≡ r) where
    length_is : (n : ℕ) → (rule_at r).least ≡ n → (rule_at r).most ≡ n → t.len ≡ n
    length_is n least most =
        let low : n ≤ t.len = rw (← least, ← e) least_premises in
        let high : t.len ≤ n = rw (← most, ← e) most_premises in
        omega arith

    pub fits_none : {q : Bool} → (rule_at r).most ≡ 0 → q ≡ (rule_at r).fits (case_of s) (tree_in (trees b) t.formula) t.argument [] → q ≡ not (misfit (case_of s) k)
    unfolding premise_trees listed
    fits_none most h =
        let len : t.len ≡ 0 = (let high : t.len ≤ 0 = rw (← most, ← e) most_premises in omega arith) in
        h ∙ (rw (e, len) at fits_is)

    module _ {p : ℕ} (first : p ≡ step_formula s (premise_step s t.from)) where
      pub fits_one :
          {q : Bool} → (rule_at r).least ≡ 1 → (rule_at r).most ≡ 1 →
          q ≡ (rule_at r).fits (case_of s) (tree_in (trees b) t.formula) t.argument (tree_in (trees b) p ∷ []) → q ≡ not (misfit (case_of s) k)
      unfolding premise_trees listed
      fits_one least most h = h ∙ rw (named lent first) (rw (e, length_is 1 least most) at fits_is)

      pub fits_two :
          {q : Bool} {g : ℕ} → (rule_at r).least ≡ 2 → (rule_at r).most ≡ 2 → g ≡ step_formula s (premise_step s (t.from + 1)) →
          q ≡ (rule_at r).fits (case_of s) (tree_in (trees b) t.formula) t.argument (tree_in (trees b) p ∷ tree_in (trees b) g ∷ []) →
          q ≡ not (misfit (case_of s) k)
      unfolding premise_trees listed
      fits_two least most second h = h ∙ rw (named lent first, named lent second) (rw (e, length_is 2 least most) at fits_is)

  -- The tests of 24, 25 and 26, on what was read.
  pub kind_is : {r : ℕ} → t.rule ≡ r → any_faulty is_other_kind (rule_at r).asks (premise_trees s t.from t.len) ≡ wrong_kind (case_of s) k
  unfolding wrong_kind
  kind_is e = rw (← e, rule_is, premises_are)

  pub party_is : {r agent : ℕ} → t.rule ≡ r → agent ≡ agent_of s → any_faulty (is_other_party agent) (rule_at r).asks (premise_trees s t.from t.len) ≡ wrong_party (case_of s) k
  unfolding wrong_party case_of
  party_is e agent = rw (← e, agent, rule_is, premises_are)

  instance_is :
      (rule_at t.rule).other_instance (case_of s) (tree_in (trees b) t.formula) t.argument (premise_trees s t.from t.len) ≡ wrong_instance (case_of s) k
  unfolding wrong_instance case_of
  instance_is = rw (rule_is, named lent is.formula, is.argument, premises_are)

  none_other : (rule_at t.rule).other_instance ≡ no_instance → wrong_instance (case_of s) k ≡ false
  unfolding no_instance
  none_other none = sym (rw none at instance_is)

  pub no_other_instance : (t.rule ≡ 14 → ⊥) → (t.rule ≡ 15 → ⊥) → wrong_instance (case_of s) k ≡ false
  no_other_instance a b = none_other (no_instance_lem t.rule rule_number a b)

  -- Check 27, and whether the rule fits: the check is of rule 5 alone.
  pub other_fits : {q : Bool} → (t.rule ≡ 5 → ⊥) → q ≡ not (misfit (case_of s) k) → run_meant (Ok q) ≡ fit_run (case_of s) k
  unfolding fit_run stray_variable case_of run_meant
  other_fits other e = ap accepts e ∙ then_goes_on (sym (try_holds (single 27 _ _) (rw (ne_eqb (step_rule s k) 5 (λ five. other (is.rule ∙ five))))))

  module _ (five : t.rule ≡ 5) where
    owner_fits : owner (case_of s) (tree_in (trees b) t.formula) t.argument (premise_trees s t.from t.len) ≡ not (misfit (case_of s) k)
    unfolding rule_at rules rule
    owner_fits = rw five at fits_is

    variable_is : has data_variable 0 (tree_in (trees b) t.formula) ≡ stray_variable (case_of s) k
    unfolding stray_variable case_of
    variable_is = rw (← is.rule, five, named lent is.formula)

    place_is : stray_row b t.formula ≡ ((case_of s).step k).stray
    unfolding case_of
    place_is = rw (is.formula, lent.booked.is)

    pub owner_run : {x : Checked Bool} → x ≡ by_stray (stray_or b t.formula (owner (case_of s) (tree_in (trees b) t.formula) t.argument (premise_trees s t.from t.len))) → x ≡ fit_run (case_of s) k
    unfolding fit_run
    owner_run e = e ∙ ap (λ q. by_stray (stray_or b t.formula q)) owner_fits ∙ stray_run b t.formula _
        ∙ ap₂ (λ p v. ◌>>◌ (try (single 27 p v)) (accepts (not (misfit (case_of s) k)))) place_is variable_is

  -- A step of rule 14 or 15 that does not fit, though its argument is admitted: the instance is another.
  module _ (misfits : misfit (case_of s) k ≡ true) where
    unfit : (rule_at t.rule).fits (case_of s) (tree_in (trees b) t.formula) t.argument (premise_trees s t.from t.len) ≡ false
    unfit = fits_is ∙ ap not misfits

    pub other_premise_lem : t.rule ≡ 14 → admits_parameter t.argument (tree_in (trees b) t.formula) ≡ wrong_instance (case_of s) k
    unfolding rule_at rules rule other_premise for_all_intro
    other_premise_lem e = admitted_other _ _ (rw e at unfit) ∙ (rw e at instance_is)

    pub other_formula_lem : {p : ℕ} → t.rule ≡ 15 → p ≡ step_formula s (premise_step s t.from) → admits_term t.argument (tree_in (trees b) p) ≡ wrong_instance (case_of s) k
    unfolding rule_at rules rule other_formula for_all_elim first premise_trees listed
    other_formula_lem e premise =
        let len : t.len ≡ 1 = length_is 15 e 1 refl refl in
        rw (named lent premise) (admitted_other _ _ (rw (e, len) at unfit) ∙ (rw (e, len) at instance_is))

  -- The step's number fits 16 bits.
  pub place_few : k < 2048
  place_few = omega (arith, st.inside, steps_few s (parted lent))

-- What is answered of a step by whether it fits.
module _ (c : Case) (k : ℕ) where
  -- check 27 refuses
  pub fit_stops : (e : Refusal) → run_meant {A = Bool} (Err e) ≡ fit_run c k → run_meant {A = Unit {0}} (Err e) ≡ in_order (fit_checks c k)
  unfolding fit_checks fit_run run_meant
  fit_stops e h = ⊎_elim (λ a. checks_stop e _ _ (sym a)) (λ w. absurd (never_both w.1)) (then_refuses (try (single 27 (c.step k).stray (stray_variable c k))) _ _ _ (sym h))

  -- it does not
  module _ (q : Bool) (h : run_meant (Ok q) ≡ fit_run c k) where
    both : ((x : Unit {0}) × (try (single 27 (c.step k).stray (stray_variable c k)) ≡ accepts x)) × (accepts (not (misfit c k)) ≡ accepts q)
    unfolding fit_run run_meant
    both = then_accepts (try (single 27 (c.step k).stray (stray_variable c k))) _ q (sym h)

    answer_is : not (misfit c k) ≡ q
    answer_is = let e = both.1 in cc

    pub fitting : q ≡ true → run_meant (Ok tt) ≡ in_order (fit_checks c k)
    unfolding run_meant
    fitting taken = sym (hold_all _ ((fit_checks_lem c k).1 (not-true _ (answer_is ∙ taken))))

    pub unfitting : q ≡ false → misfit c k ≡ true
    unfitting left = not-false _ (answer_is ∙ left)

    pub fit_goes_on : {x : Checked (Unit {0})} → x ≡ in_order (misfit_checks c k) → x ≡ in_order (fit_checks c k)
    unfolding fit_checks run_meant
    fit_goes_on e = e ∙ checks_go_on both.0.0 _ _ (sym both.0.1)

-- A check's fault, as it was found.
pub of_fault : (n p : ℕ) {a f : Bool} {x : Checked (Unit {0})} → a ≡ f → x ≡ try (single n p a) → x ≡ try (single n p f)
of_fault n p e h = h ∙ ap (λ b. try (single n p b)) e
