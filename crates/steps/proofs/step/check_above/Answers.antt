-- `check_above` meets its contract: checks 19 and 28, in order. Assumes nothing.
use Rattle.std.proofs.Common.{rules, Err}
use mathlib.Core.Path.{◌≡◌, sym, ap, ◌∙◌}
use native.Mathlib.Omega.{arith}
use Rattle.definition.specs.04-Checks.{try, single}
use Rattle.definition.specs.17-Case.{case_of}
use Rattle.definition.specs.22-Steps.{State, opens_in, premises_of, joined, not_fresh, no_tautology, above_checks}
use Rattle.rules.proofs.ShapedStepLaws.{place_few}
use Rattle.tables.specs.Sets.{labels_of}
use Rattle.words.proofs.CheckRuns.{checks_stop, checks_go_on, last_check}
use Rattle.steps.specs.OpenLabels.{stale_term}
use Rattle.steps.proofs.StepBranches.{stale_is}
use Rattle.steps.proofs.step.check_above.Goals as goal
use Rattle.steps.proofs.step.check_above.Goals.{After-not_fresh}

-- Check 19, in a state in which these labels are open above.
stale :
    (c : After-not_fresh) (s : State) → labels_of c.args.above.bits ≡ joined (opens_in s) (premises_of (case_of c.args.case.now.file.now) c.args.k) →
    try (single 19 c.args.k c.not_fresh.result) ≡ try (single 19 c.args.k (not_fresh (case_of c.args.case.now.file.now) s c.args.k))
unfolding case_of stale_term
stale c s above = ap (λ b. try (single 19 c.args.k b)) (c.not_fresh.ensures ∙ stale_is (case_of c.args.case.now.file.now) c.args.k s _ above)

pub overflow_cast-place : goal.overflow_cast-place
overflow_cast-place c = omega (arith, place_few c.args.case.now.lent.lent c.requires.shaped_step.0 c.requires.shaped_step.1)

pub returns-in_err-single : goal.returns-in_err-single
unfolding above_checks
returns-in_err-single c s table above =
    let e : c.from_residual.result ≡ Err c.in_err-single.field-0.0 = search rules in
    rw e (checks_stop _ _ _ (c.in_err-single.ensures ∙ stale (goal.at.returns-in_err-single c).After-not_fresh s above))

pub returns : goal.returns
unfolding above_checks
returns c s table above =
    c.single-2.ensures
    ∙ ap (λ b. try (single 28 c.args.k b)) (c.no_tautology.ensures ∙ ap (λ r. no_tautology (case_of c.args.case.now.file.now) r c.args.k) (sym table))
    ∙ last_check _ ∙ checks_go_on _ _ _ (c.in_ok-single.ensures ∙ stale (goal.at.returns c).After-not_fresh s above)
