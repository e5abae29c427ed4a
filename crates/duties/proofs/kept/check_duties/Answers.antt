-- `check_duties` meets its contract: checks 31 and 32, in order. Assumes nothing.
use Rattle.std.proofs.Common.{arith, rules, Err}
use mathlib.Core.Path.{◌≡◌, ◌∙◌}
use Rattle.definition.specs.17-Case.{case_of}
use Rattle.definition.specs.23-Duties.{undone, duty_checks}
use Rattle.words.proofs.CheckRuns.{checks_stop, checks_go_on, last_check}
use Rattle.case_file.proofs.LentCaseLaws.{parted, obligations_few}
use Rattle.duties.proofs.kept.check_duties.Goals as goal

pub each-requires-clause-fits : goal.each-requires-clause-fits
each-requires-clause-fits c = omega (arith, c.count_of.ensures.0, obligations_few _ (parted c.args.case.now.lent.lent))

pub returns-in_err-each : goal.returns-in_err-each
unfolding duty_checks case_of
returns-in_err-each c =
    let e : c.from_residual.result ≡ Err c.in_err-each.field-0.0 = search rules in
    rw e (checks_stop _ _ _ (rw c.count_of.ensures.0 at (c.in_err-each.ensures (undone (case_of c.args.case.now.file.now)) (λ k b below post. search rules))))

pub returns : goal.returns
unfolding duty_checks case_of
returns c =
    c.check_named_again.ensures ∙ last_check _ ∙
    checks_go_on _ _ _ (rw c.count_of.ensures.0 at (c.in_ok-each.ensures (undone (case_of c.args.case.now.file.now)) (λ k b below post. search rules)))
