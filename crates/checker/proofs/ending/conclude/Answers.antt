-- `conclude` meets its contract: checks 20 to 22 and those of the duties, and then 23 and the lists. Assumes nothing.
use Rattle.std.proofs.Common.{rules, Err, ◌≡◌}
use mathlib.Core.Path.{◌∙◌}
use Rattle.definition.specs.31-Outcome.{end_checks}
use Rattle.checker.proofs.ReportLaws.{stop_on, stop_reported, go_on, end_listing}
use Rattle.checker.specs.Reports.{concluding}
use Rattle.checker.proofs.ending.conclude.Goals as goal

pub returns-in_err-check_closing : goal.returns-in_err-check_closing
unfolding concluding end_checks
returns-in_err-check_closing c =
    let e : c.from_residual.result ≡ Err c.in_err-check_closing.field-0.0 = search rules in
    rw e (stop_reported _ _ _ _ (stop_on _ _ _ (stop_on _ _ _ (c.in_err-check_closing.ensures _ _))))

pub returns-in_err-check_duties : goal.returns-in_err-check_duties
unfolding concluding end_checks
returns-in_err-check_duties c =
    let e : c.from_residual-in_err-check_duties.result ≡ Err c.in_err-check_duties.field-0.0 = search rules in
    rw e (stop_reported _ _ _ _ (stop_on _ _ _ (c.in_err-check_duties.ensures ∙ go_on _ _ (c.in_ok-check_closing.ensures _ _))))

pub returns : goal.returns
returns c = end_listing _ _ _ _ _ (c.in_ok-check_duties.ensures ∙ go_on _ _ (c.in_ok-check_closing.ensures _ _)) (c.list_cited.ensures _)
