-- `check_steps` meets its contract: the steps, and where all of them pass, what follows. Assumes nothing.
use Rattle.std.proofs.Common.{rules, Err, ◌≡◌}
use mathlib.Core.Path.{ap, ◌∙◌}
use Rattle.definition.specs.04-Checks.{in_order}
use Rattle.definition.specs.17-Case.{case_of}
use Rattle.definition.specs.22-Steps.{checks_of_steps}
use Rattle.definition.specs.31-Outcome.{proof_checks}
use Rattle.checker.specs.Reports.{proof}
use Rattle.checker.specs.StepRuns.{after_run}
use Rattle.steps.proofs.FirstState.{start_state_lem}
use Rattle.checker.proofs.ReportLaws.{stop_on, stop_reported, reported_as, proof_run, all_numbered}
use Rattle.checker.proofs.checks.check_steps.Goals as goal

pub returns-in_err-run_steps : goal.returns-in_err-run_steps
unfolding proof proof_checks
returns-in_err-run_steps c =
    let e : c.from_residual.result ≡ Err c.in_err-run_steps.field-0.0 = search rules in
    let case = case_of c.args.case.now.file.now in
    rw e (stop_reported _ _ _ _ (stop_on _ _ _ (c.in_err-run_steps.ensures.is ∙ ap (λ s. in_order (checks_of_steps case case.steps 0 s)) start_state_lem)))

pub conclude-requires : goal.conclude-requires
conclude-requires c =
    let case = case_of c.args.case.now.file.now in
    (c.requires, all_numbered c.args.case.now.lent.lent (c.in_ok-run_steps.ensures.is ∙ ap (λ s. in_order (checks_of_steps case case.steps 0 s)) start_state_lem))

pub returns : goal.returns
returns c =
    let case = case_of c.args.case.now.file.now in
    let run = c.in_ok-run_steps.ensures.is ∙ ap (λ s. in_order (checks_of_steps case case.steps 0 s)) start_state_lem in
    let state = c.in_ok-run_steps.ensures.state ∙ ap (after_run case case.steps 0) start_state_lem in
    reported_as (proof_run case _ _ run state) c.conclude.ensures
