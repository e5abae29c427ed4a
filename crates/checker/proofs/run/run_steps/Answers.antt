-- `run_steps` meets its contract: the whole run is the run from step `k` on. Assumes nothing.
use Rattle.std.proofs.Common.{rules, arith, Err, ◌≡◌}
use Rattle.steps.proofs.StepBranches.{full_length}
use Rattle.checker.proofs.StepRun.{turn_start, turn_end, turn_refused, turn_next}
use Rattle.checker.proofs.run.run_steps.Goals as goal

pub loop-k-init : goal.loop-k-init
loop-k-init c = turn_start _ _ _ _ _ c.count_of-n.ensures.0 (full_length c.args.tables.now)

pub returns-in_err-take_step : goal.returns-in_err-take_step
returns-in_err-take_step c =
    let e : c.from_residual.result ≡ Err c.in_err-take_step.field-0.0 = search rules in
    rw e (turn_refused _ _ _ _ _ _ _ c.loop-k.invariant (omega arith) _ _ _ _ c.in_err-take_step.ensures)

pub loop-k-preserved : goal.loop-k-preserved
loop-k-preserved c = turn_next _ _ _ _ _ _ _ c.loop-k.invariant (omega arith) _ _ _ c.args.case.now.lent.lent c.in_ok-take_step.ensures

pub returns : goal.returns
returns c = turn_end _ _ _ _ _ _ _ c.loop-k.invariant (omega arith)
