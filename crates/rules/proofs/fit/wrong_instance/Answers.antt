-- `wrong_instance` meets its contract: rules 14 and 15, and the others. Assumes nothing.
use mathlib.Core.Path.{◌≡◌, sym, ap, ◌∙◌}
use native.Mathlib.Omega.{arith}
use Rattle.case_parts.specs.Named.{rule_number}
use Rattle.case_parts.specs.declared.named.Rule.TheVariants.{ForAllIntro, ForAllElim}
use Rattle.rules.proofs.ShapedStepLaws.{own_numbered, first_premise, other_premise_lem, other_formula_lem, no_other_instance}
use Rattle.rules.proofs.NamedNumbers.{one_rule}
use Rattle.rules.proofs.fit.wrong_instance.Goals as goal

pub admits_parameter-requires : goal.admits_parameter-requires
admits_parameter-requires c = own_numbered c.args.case.now.lent.lent c.requires.shaped_step.0 c.requires.shaped_step.1

pub premise_formula-premise-requires : goal.premise_formula-premise-requires
premise_formula-premise-requires c =
    let number : c.args.step.rule ≡ 15 = c.requires.rule_is ∙ ap rule_number c.in-ForAllElim.is in
    first_premise c.args.case.now.lent.lent c.requires.shaped_step.0 c.requires.shaped_step.1 (omega arith)

pub returns-in-ForAllIntro : goal.returns-in-ForAllIntro
returns-in-ForAllIntro c = c.admits_parameter.ensures ∙ other_premise_lem c.args.case.now.lent.lent c.requires.shaped_step.0 c.requires.shaped_step.1 c.requires.k_value (c.requires.rule_is ∙ ap rule_number c.in-ForAllIntro.is)

pub returns-in-ForAllElim : goal.returns-in-ForAllElim
returns-in-ForAllElim c = c.admits_term.ensures ∙ other_formula_lem c.args.case.now.lent.lent c.requires.shaped_step.0 c.requires.shaped_step.1 c.requires.k_value (c.requires.rule_is ∙ ap rule_number c.in-ForAllElim.is) c.premise_formula-premise.ensures.is

pub returns-in_default : goal.returns-in_default
returns-in_default c = sym (no_other_instance c.args.case.now.lent.lent c.requires.shaped_step.0 c.requires.shaped_step.1 (λ e. c.in_default.not-ForAllIntro (one_rule c.args.rule ForAllIntro (sym c.requires.rule_is ∙ e))) (λ e. c.in_default.not-ForAllElim (one_rule c.args.rule ForAllElim (sym c.requires.rule_is ∙ e))))
