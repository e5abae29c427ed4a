-- `from_premises` meets its contract: the rules by their numbers; a rule has its own number of premises, and what its argument names is there. Assumes nothing.
use Prim.Native.Nat.{ℕ}
use mathlib.Core.Logic.{inl, inr}
use mathlib.Core.Path.{◌≡◌, refl, ap, ◌∙◌}
use native.Mathlib.Omega.{arith}
use Rattle.case_parts.specs.Named.{rule_number}
use Rattle.definition.specs.21-Rules.{a_label, an_obligation, first, second, and_intro, implies_elim, duty_intro, duty_by_label, rule, rules, rule_at}
use Rattle.rules.proofs.ShapedStepLaws.{first_premise, second_premise, fits_one, fits_two, cited}
use Rattle.rules.proofs.sixteen.from_premises.Goals as goal

pub premise_formula-p-requires : goal.premise_formula-p-requires
premise_formula-p-requires c = first_premise c.args.case.now.lent.lent c.requires.shaped_step.0 c.requires.shaped_step.1 c.requires.rule_value.0

pub premise_formula-requires : goal.premise_formula-requires
unfolding rule rules rule_at
premise_formula-requires c = second_premise c.args.case.now.lent.lent c.requires.shaped_step.0 c.requires.shaped_step.1 4 (c.requires.rule_is ∙ ap rule_number c.in-Refine.is) refl

pub premise_formula-requires-in-AndIntro : goal.premise_formula-requires-in-AndIntro
unfolding rule rules rule_at
premise_formula-requires-in-AndIntro c = second_premise c.args.case.now.lent.lent c.requires.shaped_step.0 c.requires.shaped_step.1 6 (c.requires.rule_is ∙ ap rule_number c.in-AndIntro.is) refl

pub implies_intro-requires-clause-label_bound : goal.implies_intro-requires-clause-label_bound
unfolding rule rules rule_at
implies_intro-requires-clause-label_bound c = cited c.args.case.now.lent.lent c.requires.shaped_step.0 c.requires.shaped_step.1 a_label 9 (c.requires.rule_is ∙ ap rule_number c.in-ImpliesIntro.is) refl

pub premise_formula-requires-in-ImpliesElim : goal.premise_formula-requires-in-ImpliesElim
unfolding rule rules rule_at
premise_formula-requires-in-ImpliesElim c = second_premise c.args.case.now.lent.lent c.requires.shaped_step.0 c.requires.shaped_step.1 10 (c.requires.rule_is ∙ ap rule_number c.in-ImpliesElim.is) refl

pub duty_intro-requires-clause-label_bound : goal.duty_intro-requires-clause-label_bound
unfolding rule rules rule_at
duty_intro-requires-clause-label_bound c = cited c.args.case.now.lent.lent c.requires.shaped_step.0 c.requires.shaped_step.1 a_label 11 (c.requires.rule_is ∙ ap rule_number c.in-DutyIntro.is) refl

pub duty_by_obligation-requires-clause-obligation_bound : goal.duty_by_obligation-requires-clause-obligation_bound
unfolding rule rules rule_at
duty_by_obligation-requires-clause-obligation_bound c = cited c.args.case.now.lent.lent c.requires.shaped_step.0 c.requires.shaped_step.1 an_obligation 12 (c.requires.rule_is ∙ ap rule_number c.in-DutyByObligation.is) refl

pub duty_intro-requires-in-DutyByLabel-clause-label_bound : goal.duty_intro-requires-in-DutyByLabel-clause-label_bound
unfolding rule rules rule_at
duty_intro-requires-in-DutyByLabel-clause-label_bound c = cited c.args.case.now.lent.lent c.requires.shaped_step.0 c.requires.shaped_step.1 a_label 13 (c.requires.rule_is ∙ ap rule_number c.in-DutyByLabel.is) refl

pub returns-in-Say : goal.returns-in-Say
unfolding rule rules rule_at
returns-in-Say c = fits_one c.args.case.now.lent.lent c.requires.shaped_step.0 c.requires.shaped_step.1 3 (c.requires.rule_is ∙ ap rule_number c.in-Say.is) c.premise_formula-p.ensures.is refl refl (c.say.ensures _)

pub returns-in-Refine : goal.returns-in-Refine
unfolding rule rules rule_at
returns-in-Refine c = fits_two c.args.case.now.lent.lent c.requires.shaped_step.0 c.requires.shaped_step.1 4 (c.requires.rule_is ∙ ap rule_number c.in-Refine.is) c.premise_formula-p.ensures.is refl refl c.premise_formula.ensures.is (c.refine.ensures _)

pub returns-in-AndIntro : goal.returns-in-AndIntro
unfolding first second and_intro rule rules rule_at
returns-in-AndIntro c = fits_two c.args.case.now.lent.lent c.requires.shaped_step.0 c.requires.shaped_step.1 6 (c.requires.rule_is ∙ ap rule_number c.in-AndIntro.is) c.premise_formula-p.ensures.is refl refl c.premise_formula-in-AndIntro.ensures.is (c.is_row.ensures _ (c.and.ensures _ c.premise_formula-p.ensures.numbered c.premise_formula-in-AndIntro.ensures.numbered))

pub returns-in-AndLeft : goal.returns-in-AndLeft
unfolding rule rules rule_at
returns-in-AndLeft c = fits_one c.args.case.now.lent.lent c.requires.shaped_step.0 c.requires.shaped_step.1 7 (c.requires.rule_is ∙ ap rule_number c.in-AndLeft.is) c.premise_formula-p.ensures.is refl refl (c.and_left.ensures _ _)

pub returns-in-AndRight : goal.returns-in-AndRight
unfolding rule rules rule_at
returns-in-AndRight c = fits_one c.args.case.now.lent.lent c.requires.shaped_step.0 c.requires.shaped_step.1 8 (c.requires.rule_is ∙ ap rule_number c.in-AndRight.is) c.premise_formula-p.ensures.is refl refl (c.and_right.ensures _ _)

pub returns-in-ImpliesIntro : goal.returns-in-ImpliesIntro
unfolding rule rules rule_at
returns-in-ImpliesIntro c = fits_one c.args.case.now.lent.lent c.requires.shaped_step.0 c.requires.shaped_step.1 9 (c.requires.rule_is ∙ ap rule_number c.in-ImpliesIntro.is) c.premise_formula-p.ensures.is refl refl (c.implies_intro.ensures)

pub returns-in-ImpliesElim : goal.returns-in-ImpliesElim
unfolding first second implies_elim rule rules rule_at
returns-in-ImpliesElim c = fits_two c.args.case.now.lent.lent c.requires.shaped_step.0 c.requires.shaped_step.1 10 (c.requires.rule_is ∙ ap rule_number c.in-ImpliesElim.is) c.premise_formula-p.ensures.is refl refl c.premise_formula-in-ImpliesElim.ensures.is (c.is_row-in-ImpliesElim.ensures _ (c.implies.ensures _ c.premise_formula-in-ImpliesElim.ensures.numbered c.requires.numbered))

pub returns-in-DutyIntro : goal.returns-in-DutyIntro
unfolding rule rules rule_at
returns-in-DutyIntro c = fits_one c.args.case.now.lent.lent c.requires.shaped_step.0 c.requires.shaped_step.1 11 (c.requires.rule_is ∙ ap rule_number c.in-DutyIntro.is) c.premise_formula-p.ensures.is refl refl (c.duty_intro.ensures)

pub returns-in-DutyByObligation : goal.returns-in-DutyByObligation
unfolding rule rules rule_at
returns-in-DutyByObligation c = fits_one c.args.case.now.lent.lent c.requires.shaped_step.0 c.requires.shaped_step.1 12 (c.requires.rule_is ∙ ap rule_number c.in-DutyByObligation.is) c.premise_formula-p.ensures.is refl refl (c.duty_by_obligation.ensures)

pub returns-in-DutyByLabel : goal.returns-in-DutyByLabel
unfolding first duty_intro duty_by_label rule rules rule_at
returns-in-DutyByLabel c = fits_one c.args.case.now.lent.lent c.requires.shaped_step.0 c.requires.shaped_step.1 13 (c.requires.rule_is ∙ ap rule_number c.in-DutyByLabel.is) c.premise_formula-p.ensures.is refl refl (c.duty_intro-in-DutyByLabel.ensures)

pub returns-in-ForAllIntro : goal.returns-in-ForAllIntro
unfolding rule rules rule_at
returns-in-ForAllIntro c = fits_one c.args.case.now.lent.lent c.requires.shaped_step.0 c.requires.shaped_step.1 14 (c.requires.rule_is ∙ ap rule_number c.in-ForAllIntro.is) c.premise_formula-p.ensures.is refl refl (c.for_all_intro.ensures _)

pub returns-in-ForAllElim : goal.returns-in-ForAllElim
unfolding rule rules rule_at
returns-in-ForAllElim c = fits_one c.args.case.now.lent.lent c.requires.shaped_step.0 c.requires.shaped_step.1 15 (c.requires.rule_is ∙ ap rule_number c.in-ForAllElim.is) c.premise_formula-p.ensures.is refl refl (c.for_all_elim.ensures _)

pub unreachable-requires : goal.unreachable-requires
unreachable-requires c =
    let above = c.requires.rule_value.0 in
    let number : (n : ℕ) → rule_number c.args.rule ≡ n → c.args.step.rule ≡ n = λ n e. c.requires.rule_is ∙ e in
    elim c.in-Suppose.is [
      | inl e ↦ let n = number 0 (ap rule_number e) in omega arith
      | inr w ↦ elim w [
        | inl e ↦ let n = number 1 (ap rule_number e) in omega arith
        | inr v ↦ elim v [
          | inl e ↦ let n = number 2 (ap rule_number e) in omega arith
          | inr e ↦ c.requires.rule_value.1 (number 5 (ap rule_number e))
        ]
      ]
    ]
