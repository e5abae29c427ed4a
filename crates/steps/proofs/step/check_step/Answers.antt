-- `check_step` meets its contract: its checks, in order. Assumes nothing.
use Rattle.std.proofs.Common.{rules, Err}
use mathlib.Core.Path.{◌≡◌, sym, ap, ◌∙◌}
use mathlib.Core.Bool.{false}
use native.Mathlib.Omega.{arith}
use Rattle.definition.proofs.CheckLaws.{try_accepts}
use Rattle.definition.specs.04-Checks.{try, single, in_order}
use Rattle.definition.specs.15-Records.{step_argument}
use Rattle.definition.specs.17-Case.{case_of}
use Rattle.definition.specs.22-Steps.{rule_of, misshapen, citation_checks}
use Rattle.case_file.proofs.LentCaseLaws.{parted, steps_few}
use Rattle.rules.proofs.ShapedStepLaws.{shaped}
use Rattle.step_shape.specs.Meanings.{names_meant, shape_meant}
use Rattle.step_shape.specs.RuleLines.{shape_of, rule_shape}
use Rattle.words.specs.Meanings.{run_meant}
use Rattle.steps.proofs.StepBranches.{judged_12, judged_13, judged_missing, judged_misused, judged_passed, premises_below, shaped_step}
use Rattle.steps.proofs.step.check_step.Goals as goal
use Rattle.steps.proofs.step.check_step.Goals.{Start, In_ok-single, In_ok-single-2}

fine : (c : In_ok-single) → misshapen (case_of c.args.case.now.file.now) c.args.k ≡ false
unfolding run_meant
fine c = sym c.misshapen.ensures ∙ try_accepts (single 12 c.args.k c.misshapen.result) (sym c.in_ok-single.ensures)

free : (c : In_ok-single-2) → c.take_premises.result ≡ false
unfolding run_meant
free c = try_accepts (single 13 c.args.k c.take_premises.result) (sym c.in_ok-single-2.ensures)

-- What the step cites, in the words of the step.
cites :
    (c : Start) → in_order (citation_checks (case_of c.args.case.now.file.now) (names_meant c.args.shape.names) c.args.step.argument c.args.k) ≡
    in_order
    (citation_checks (case_of c.args.case.now.file.now) (rule_of (case_of c.args.case.now.file.now) c.args.k).names
    (step_argument c.args.case.now.file.now c.args.k) c.args.k)
unfolding shape_meant shape_of rule_shape
cites c = λ i. in_order (citation_checks (case_of c.args.case.now.file.now) (c.requires.step_fields.1 i).names (c.requires.step_fields.0.argument i) c.args.k)

pub overflow_cast-place : goal.overflow_cast-place
overflow_cast-place c = omega (arith, c.requires.k_bound.0, steps_few _ (parted c.args.case.now.lent.lent))

pub returns-in_err-single : goal.returns-in_err-single
returns-in_err-single c =
    let e : c.from_residual.result ≡ Err c.in_err-single.field-0.0 = search rules in
    rw e (judged_12 _ _ _ _ _ (c.in_err-single.ensures ∙ ap (λ b. try (single 12 c.args.k b)) c.misshapen.ensures) (search rules))

pub take_premises-requires : goal.take_premises-requires
take_premises-requires c = let s = c.args.case.now.file.now in
    let is = c.requires.step_fields.0 in
    let parts = parted c.args.case.now.lent.lent in
    let within = (shaped s c.args.k (fine (goal.at.take_premises-requires c).In_ok-single)).span in
    record { parted = (parts, omega (arith, within, is.from, is.len)); k_bound = (omega (arith, c.requires.k_bound.0, steps_few s parts), (search rules)) }

pub returns-in_err-single-2 : goal.returns-in_err-single-2
returns-in_err-single-2 c = let is = c.requires.step_fields.0 in
    let e : c.from_residual-in_err-single-2.result ≡ Err c.in_err-single-2.field-0.0 = search rules in
    rw e (judged_13 _ _ _ _ _ _ _ _ (fine (goal.at.returns-in_err-single-2 c).In_ok-single) is.from is.len c.take_premises.ensures _ c.in_err-single-2.ensures)

pub returns-in_err-check_citation : goal.returns-in_err-check_citation
returns-in_err-check_citation c = let is = c.requires.step_fields.0 in
    let at = goal.at.returns-in_err-check_citation c in
    let e : c.from_residual-in_err-check_citation.result ≡ Err c.in_err-check_citation.field-0.0 = search rules in
    rw e (judged_missing _ _ _ _ _ _ _ _ (fine at.In_ok-single) is.from is.len c.take_premises.ensures (free at.In_ok-single-2) _ (c.in_err-check_citation.ensures ∙ cites at.Start))

pub rests_above-above-requires : goal.rests_above-above-requires
rests_above-above-requires c = let s = c.args.case.now.file.now in
    let is = c.requires.step_fields.0 in
    let at = goal.at.rests_above-above-requires c in
    let parts = parted c.args.case.now.lent.lent in
    let within = (shaped s c.args.k (fine at.In_ok-single)).span in
    let below = premises_below _ _ _ c.args.discharged.now _ _ _ _ (fine at.In_ok-single) is.from is.len c.take_premises.ensures (free at.In_ok-single-2) in
    record { parted = (parts, omega (arith, within, is.from, is.len)); premises_below = λ j up lt. omega (arith, below j up lt, c.requires.k_bound.0, steps_few s parts); bits_value = c.requires.each_use_value }

pub check_uses-requires-clause-shaped_step : goal.check_uses-requires-clause-shaped_step
unfolding run_meant
check_uses-requires-clause-shaped_step c = let is = c.requires.step_fields.0 in
    let at = goal.at.check_uses-requires-clause-shaped_step c in
    (shaped_step _ _ _ c.args.discharged.now _ _ _ _ (fine at.In_ok-single) is.from is.len c.take_premises.ensures (free at.In_ok-single-2) (c.in_ok-check_citation.ensures ∙ cites at.Start) c.requires.k_bound.0 c.requires.k_bound.1, is)

pub returns-in_err-check_uses : goal.returns-in_err-check_uses
unfolding run_meant
returns-in_err-check_uses c = let is = c.requires.step_fields.0 in
    let at = goal.at.returns-in_err-check_uses c in
    let e : c.from_residual-in_err-check_uses.result ≡ Err c.in_err-check_uses.field-0.0 = search rules in
    rw e (judged_misused _ _ _ _ _ _ _ _ (fine at.In_ok-single) is.from is.len c.take_premises.ensures (free at.In_ok-single-2) (c.in_ok-check_citation.ensures ∙ cites at.Start) _ c.rests_above-above.ensures _ c.in_err-check_uses.ensures)

pub returns : goal.returns
unfolding run_meant
returns c = let is = c.requires.step_fields.0 in
    let at = goal.at.returns c in
    judged_passed _ _ _ _ _ _ _ _ (fine at.In_ok-single) is.from is.len c.take_premises.ensures (free at.In_ok-single-2) (c.in_ok-check_citation.ensures ∙ cites at.Start) _ c.rests_above-above.ensures c.in_ok-check_uses.ensures
