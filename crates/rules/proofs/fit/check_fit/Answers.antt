-- `check_fit` meets its contract: the test of the rule, and where it fails why. Assumes nothing.
use Rattle.std.proofs.Common.{rules, Err}
use mathlib.Core.Path.{◌≡◌}
use native.Mathlib.Omega.{arith}
use Rattle.rules.proofs.ShapedStepLaws.{rule_number, own_numbered, fit_stops, fitting, unfitting, fit_goes_on}
use Rattle.rules.proofs.fit.check_fit.Goals as goal

pub unreachable-requires : goal.unreachable-requires
unreachable-requires c =
    let above = c.in_default.ensures.0 in
    omega (arith, rule_number c.args.case.now.lent.lent c.requires.shaped_step.0 c.requires.shaped_step.1)

pub fits-requires-clause-numbered : goal.fits-requires-clause-numbered
fits-requires-clause-numbered c = own_numbered c.args.case.now.lent.lent c.requires.shaped_step.0 c.requires.shaped_step.1

pub returns-in_err-fits : goal.returns-in_err-fits
returns-in_err-fits c =
    let e : c.from_residual.result ≡ Err c.in_err-fits.field-0.0 = search rules in
    rw e (fit_stops _ _ _ c.in_err-fits.ensures)

pub returns-then-branch : goal.returns-then-branch
returns-then-branch c = fitting _ _ _ c.in_ok-fits.ensures c.if-branch.true

pub explained-requires-clause-k_value : goal.explained-requires-clause-k_value
explained-requires-clause-k_value c = unfitting _ _ _ c.in_ok-fits.ensures c.if-branch.false

pub returns : goal.returns
returns c = fit_goes_on _ _ _ c.in_ok-fits.ensures c.explained.ensures
