-- `check_uses` meets its contract: check 17, the fit, and checks 19 and 28, in order. Assumes nothing.
use Rattle.std.proofs.Common.{rules, Err}
use mathlib.Core.Path.{◌≡◌, sym, ap, ◌∙◌}
use native.Mathlib.Omega.{arith}
use Rattle.definition.proofs.CheckLaws.{stop_before, skip_before, all_hold}
use Rattle.definition.specs.04-Checks.{try, single}
use Rattle.definition.specs.17-Case.{case_of}
use Rattle.definition.specs.22-Steps.{State, rule_of, premises_of, used_twice, fit_checks, above_checks, use_checks}
use Rattle.case_file.proofs.LentCaseLaws.{parted}
use Rattle.rules.proofs.ShapedStepLaws.{place_few}
use Rattle.tables.specs.Sets.{labels_of, marks}
use Rattle.words.proofs.CheckRuns.{checks_stop, checks_go_on}
use Rattle.words.specs.Meanings.{run_meant}
use Rattle.steps.specs.OpenLabels.{UsesIn, twice_used}
use Rattle.steps.proofs.EntriesThere.{entries_there}
use Rattle.steps.proofs.StepBranches.{twice_is}
use Rattle.steps.proofs.step.check_uses.Goals as goal
use Rattle.steps.proofs.step.check_uses.Goals.{After-used_twice-twice}

-- Check 17 in a state in which this is what the steps rest on.
twice :
    (c : After-used_twice-twice) (s : State) → UsesIn (case_of c.args.case.now.file.now) c.args.k c.args.left.now c.args.discharged.now c.args.above s →
    try (single 17 c.args.k c.used_twice-twice.result)
    ≡ try
    (single 17 c.args.k
    (used_twice (case_of c.args.case.now.file.now) s (rule_of (case_of c.args.case.now.file.now) c.args.k) ((case_of c.args.case.now.file.now).step c.args.k).argument
    (premises_of (case_of c.args.case.now.file.now) c.args.k)))
unfolding case_of
twice c s w =
    let a = c.args in
    let f = case_of a.case.now.file.now in
    ap (λ b. try (single 17 a.k b))
    (c.used_twice-twice.ensures
    ∙ (λ i. twice_used f (c.requires.shape_value.0 i) (c.requires.shaped_step.1.argument i) (marks a.discharged.now) (labels_of a.above.rests.opens.bits) a.above.shared)
    ∙ twice_is f a.k a.left.now a.discharged.now a.above s w)

pub used_twice-twice-requires-clause-entry_there : goal.used_twice-twice-requires-clause-entry_there
unfolding case_of rule_of
used_twice-twice-requires-clause-entry_there c =
    let there = entries_there c.args.case.now.file.now (parted c.args.case.now.lent.lent) _ _ c.requires.shaped_step.0.cites in
    rw (c.requires.shape_value.0, c.requires.shaped_step.1.argument) there

pub overflow_cast-k : goal.overflow_cast-k
overflow_cast-k c = omega (arith, place_few c.args.case.now.lent.lent c.requires.shaped_step.0 c.requires.shaped_step.1)

pub returns-in_err-single : goal.returns-in_err-single
unfolding use_checks
returns-in_err-single c s w =
    let e : c.from_residual.result ≡ Err c.in_err-single.field-0.0 = search rules in
    rw e (checks_stop _ _ _ (c.in_err-single.ensures ∙ twice (goal.at.returns-in_err-single c).After-used_twice-twice s w))

pub returns-in_err-check_fit : goal.returns-in_err-check_fit
unfolding use_checks run_meant
returns-in_err-check_fit c s w =
    let e : c.from_residual-in_err-check_fit.result ≡ Err c.in_err-check_fit.field-0.0 = search rules in
    rw e (stop_before (fit_checks _ _) (above_checks _ _ s) c.in_err-check_fit.ensures ∙ checks_go_on _ _ _ (c.in_ok-single.ensures ∙ twice (goal.at.returns-in_err-check_fit c).After-used_twice-twice s w))

pub returns : goal.returns
unfolding use_checks run_meant
returns c s w =
    c.check_above.ensures s w.table (ap (λ r. r.opens) w.rests_are)
    ∙ sym (skip_before (fit_checks _ _) (above_checks _ _ s) (all_hold (fit_checks _ _) (sym c.in_ok-check_fit.ensures)))
    ∙ checks_go_on _ _ _ (c.in_ok-single.ensures ∙ twice (goal.at.returns c).After-used_twice-twice s w)
