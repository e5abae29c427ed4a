-- `fits` meets its contract: the rules by their numbers. Assumes nothing.
use mathlib.Core.Path.{◌≡◌, refl, sym, ap, ◌∙◌}
use native.Mathlib.Omega.{arith}
use Rattle.case_parts.specs.Named.{rule_number}
use Rattle.case_parts.specs.declared.named.Rule.TheVariants.{Suppose, ConditionRow, SeenRow, Owner}
use Rattle.definition.specs.21-Rules.{a_condition, a_label, a_row, rule, rules, rule_at}
use Rattle.rules.proofs.ShapedStepLaws.{own_policy, premises_there, fits_none, other_fits, owner_run, cited}
use Rattle.rules.proofs.NamedNumbers.{one_rule}
use Rattle.rules.proofs.fit.fits.Goals as goal

pub suppose-requires-clause-label_bound : goal.suppose-requires-clause-label_bound
unfolding rule rules rule_at
suppose-requires-clause-label_bound c = cited c.args.case.now.lent.lent c.requires.shaped_step.0 c.requires.shaped_step.1 a_label 0 (c.requires.rule_is ∙ ap rule_number c.in-Suppose.is) refl

pub condition_row-requires-clause-condition_bound : goal.condition_row-requires-clause-condition_bound
unfolding rule rules rule_at
condition_row-requires-clause-condition_bound c = cited c.args.case.now.lent.lent c.requires.shaped_step.0 c.requires.shaped_step.1 a_condition 1 (c.requires.rule_is ∙ ap rule_number c.in-ConditionRow.is) refl

pub seen_row-requires-clause-row_bound : goal.seen_row-requires-clause-row_bound
unfolding rule rules rule_at
seen_row-requires-clause-row_bound c = cited c.args.case.now.lent.lent c.requires.shaped_step.0 c.requires.shaped_step.1 a_row 2 (c.requires.rule_is ∙ ap rule_number c.in-SeenRow.is) refl

pub owner-requires : goal.owner-requires
owner-requires c = record { premises = premises_there c.args.case.now.lent.lent c.requires.shaped_step.0 c.requires.shaped_step.1; numbered = (c.requires.numbered, own_policy c.args.case.now.lent.lent c.requires.shaped_step.0 c.requires.shaped_step.1) }

pub returns-in-Suppose : goal.returns-in-Suppose
unfolding rule rules rule_at
returns-in-Suppose c =
    let number : c.args.step.rule ≡ 0 = c.requires.rule_is ∙ ap rule_number c.in-Suppose.is in
    other_fits c.args.case.now.lent.lent c.requires.shaped_step.0 c.requires.shaped_step.1 (λ five. omega arith) (fits_none c.args.case.now.lent.lent c.requires.shaped_step.0 c.requires.shaped_step.1 0 number refl c.suppose.ensures)

pub returns-in-ConditionRow : goal.returns-in-ConditionRow
unfolding rule rules rule_at
returns-in-ConditionRow c =
    let number : c.args.step.rule ≡ 1 = c.requires.rule_is ∙ ap rule_number c.in-ConditionRow.is in
    other_fits c.args.case.now.lent.lent c.requires.shaped_step.0 c.requires.shaped_step.1 (λ five. omega arith) (fits_none c.args.case.now.lent.lent c.requires.shaped_step.0 c.requires.shaped_step.1 1 number refl c.condition_row.ensures)

pub returns-in-SeenRow : goal.returns-in-SeenRow
unfolding rule rules rule_at
returns-in-SeenRow c =
    let number : c.args.step.rule ≡ 2 = c.requires.rule_is ∙ ap rule_number c.in-SeenRow.is in
    other_fits c.args.case.now.lent.lent c.requires.shaped_step.0 c.requires.shaped_step.1 (λ five. omega arith) (fits_none c.args.case.now.lent.lent c.requires.shaped_step.0 c.requires.shaped_step.1 2 number refl c.seen_row.ensures)

pub returns-in-Owner : goal.returns-in-Owner
returns-in-Owner c = owner_run c.args.case.now.lent.lent c.requires.shaped_step.0 c.requires.shaped_step.1 (c.requires.rule_is ∙ ap rule_number c.in-Owner.is) (c.owner.ensures _)

pub from_premises-requires-clause-rule_value : goal.from_premises-requires-clause-rule_value
from_premises-requires-clause-rule_value c =
    let r = c.args.rule in
    let zero : rule_number r ≡ 0 → ⊥ = λ e. c.in_default.not-Suppose (one_rule r Suppose e) in
    let one : rule_number r ≡ 1 → ⊥ = λ e. c.in_default.not-ConditionRow (one_rule r ConditionRow e) in
    let two : rule_number r ≡ 2 → ⊥ = λ e. c.in_default.not-SeenRow (one_rule r SeenRow e) in
    let five : rule_number r ≡ 5 → ⊥ = λ e. c.in_default.not-Owner (one_rule r Owner e) in
    (omega (arith, c.requires.rule_is), λ e. omega (arith, c.requires.rule_is))

pub returns-in_default : goal.returns-in_default
returns-in_default c =
    let r = c.args.rule in
    other_fits c.args.case.now.lent.lent c.requires.shaped_step.0 c.requires.shaped_step.1 (λ five. c.in_default.not-Owner (one_rule r Owner (sym c.requires.rule_is ∙ five))) c.from_premises.ensures
