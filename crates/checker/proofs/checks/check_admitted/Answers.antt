-- `check_admitted` meets its contract: checks 10 and 11, and then the duties alone or the steps. Assumes nothing.
use Rattle.std.proofs.Common.{rules, arith, Err, ◌≡◌}
use Rattle.definition.specs.17-Case.{case_of}
use Rattle.definition.specs.31-Outcome.{case_checks}
use Rattle.checker.proofs.ReportLaws.{stop_on, stop_reported, nothing_owed_reported, steps_reported}
use Rattle.checker.specs.Reports.{justifying}
use Rattle.checker.proofs.checks.check_admitted.Goals as goal

pub returns-in_err-check_owing : goal.returns-in_err-check_owing
unfolding justifying case_checks
returns-in_err-check_owing c =
    let e : c.from_residual.result ≡ Err c.in_err-check_owing.field-0.0 = search rules in
    rw e (stop_reported _ _ _ _ (stop_on _ _ _ c.in_err-check_owing.ensures))

pub returns-then-count_of-eq0 : goal.returns-then-count_of-eq0
unfolding case_of
returns-then-count_of-eq0 c = nothing_owed_reported _ _ c.in_ok-check_owing.ensures
    (omega (arith, c.count_of.ensures.0, c.if-count_of-eq0.true)) (c.check_owing_nothing.ensures _)

pub returns : goal.returns
unfolding case_of
returns c = steps_reported _ _ c.in_ok-check_owing.ensures
    (omega (arith, c.count_of.ensures.0, c.if-count_of-eq0.false)) _ _ c.check_steps.ensures
