-- `check_owing_nothing` meets its contract: the duties, and then "none owed". Assumes nothing.
use Rattle.std.proofs.Common.{rules, Err, ◌≡◌}
use Rattle.checker.proofs.ReportLaws.{stop_reported, none_owed_reported}
use Rattle.checker.specs.Reports.{owing_nothing}
use Rattle.checker.proofs.checks.check_owing_nothing.Goals as goal

pub returns-in_err-check_duties : goal.returns-in_err-check_duties
unfolding owing_nothing
returns-in_err-check_duties c room =
    let e : c.from_residual.result ≡ Err c.in_err-check_duties.field-0.0 = search rules in
    rw e (stop_reported _ _ _ room c.in_err-check_duties.ensures)

pub returns : goal.returns
returns c room = none_owed_reported _ room c.in_ok-check_duties.ensures
