-- `take_step` meets its contract: a refused step leaves what `check_step` left, an accepted one is entered in the tables. Assumes nothing.
use Rattle.std.proofs.Common.{rules, Err}
use mathlib.Core.Path.{◌≡◌, ap, ◌∙◌}
use native.Mathlib.Omega.{arith}
use Rattle.definition.specs.15-Records.{step_rule, step_argument}
use Rattle.definition.specs.17-Case.{case_of}
use Rattle.definition.specs.21-Rules.{rule_at}
use Rattle.definition.specs.22-Steps.{rule_of}
use Rattle.case_file.proofs.LentCaseLaws.{parted, steps_few}
use Rattle.step_shape.specs.Meanings.{names_meant, effect_meant, shape_meant}
use Rattle.step_shape.specs.RuleLines.{shape_of, rule_shape}
use Rattle.case_parts.specs.ShapedSteps.{CitedEntry}
use Rattle.steps.proofs.EntriesThere.{entries_there, cited_there, label_there_as, cited_there_as}
use Rattle.steps.proofs.StepBranches.{full_length, cited_is, stepped_refused, stepped_accepted}
use Rattle.steps.proofs.step.take_step.Goals as goal
use Rattle.steps.proofs.step.take_step.Goals.{After-shape_of-shape, In_ok-above}

-- The rule's line, in the words of the step.
names_is : (c : After-shape_of-shape) → names_meant c.shape_of-shape.result.names ≡ (rule_of (case_of c.args.case.now.file.now) c.args.k).names
unfolding case_of rule_of shape_meant shape_of rule_shape
names_is c = ap (λ t. t.names) (c.shape_of-shape.ensures ∙ ap (λ n. shape_of (rule_at n)) c.step_at-step.ensures.rule)

effect_is : (c : After-shape_of-shape) → effect_meant c.shape_of-shape.result.effect ≡ (rule_of (case_of c.args.case.now.file.now) c.args.k).effect
unfolding case_of rule_of shape_meant shape_of rule_shape
effect_is c = ap (λ t. t.effect) (c.shape_of-shape.ensures ∙ ap (λ n. shape_of (rule_at n)) c.step_at-step.ensures.rule)

-- What the step cites is there.
there :
    (c : In_ok-above) →
    CitedEntry (case_of c.args.case.now.file.now) (rule_of (case_of c.args.case.now.file.now) c.args.k).names
    (step_argument c.args.case.now.file.now c.args.k)
there c = cited_is _ _ _ c.args.tables.now.cited _ _ (full_length c.args.tables.now) _ c.in_ok-above.ensures

pub check_step-requires-clause-step_fields : goal.check_step-requires-clause-step_fields
unfolding case_of rule_of
check_step-requires-clause-step_fields c = let step = c.step_at-step.ensures in (step, c.shape_of-shape.ensures ∙ ap (λ n. shape_of (rule_at n)) step.rule)

pub rests_on-rests-requires : goal.rests_on-rests-requires
unfolding case_of rule_of shape_of rule_shape
rests_on-rests-requires c = let s = c.args.case.now.file.now in
    let step = c.step_at-step.ensures in
    let at = goal.at.rests_on-rests-requires c in
    label_there_as _ _ _ _ (effect_is at.After-shape_of-shape) step.argument (entries_there s (parted c.args.case.now.lent.lent) (step_argument s c.args.k) (step_rule s c.args.k) (there at.In_ok-above)).label

pub set_rests-requires : goal.set_rests-requires
set_rests-requires c = (omega (arith, c.requires.k_bound.0, steps_few _ (parted c.args.case.now.lent.lent)), c.in_ok-above.ensures.long)

pub mark_cited-requires : goal.mark_cited-requires
unfolding case_of rule_of
mark_cited-requires c = let s = c.args.case.now.file.now in
    let step = c.step_at-step.ensures in
    let at = goal.at.mark_cited-requires c in
    cited_there_as _ _ _ _ (names_is at.After-shape_of-shape) step.argument (cited_there s (parted c.args.case.now.lent.lent) (step_argument s c.args.k) _ (there at.In_ok-above))

pub returns-in_err-above : goal.returns-in_err-above
returns-in_err-above c =
    let e : c.from_residual.result ≡ Err c.in_err-above.field-0.0 = search rules in
    rw e (stepped_refused _ _ _ _ _ _ (full_length c.args.tables.now) _ c.in_err-above.ensures)

pub returns : goal.returns
returns c =
    let at = goal.at.returns c in
    stepped_accepted _ _ _ _ _ _ (full_length c.args.tables.now) _ c.in_ok-above.ensures _ _ _ _ _ _ _ (names_is at.After-shape_of-shape) (effect_is at.After-shape_of-shape) c.step_at-step.ensures.argument
    c.rests_on-rests.ensures c.set_rests.ensures c.mark_cited.ensures
