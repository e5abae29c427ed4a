-- `check` meets its contract: the admission, and what follows it; demand 3 comes with the outcome. Assumes nothing.
use Rattle.std.proofs.Common.{rules, arith, refl, Err, ◌≡◌}
use mathlib.Core.Path.{sym}
use Rattle.definition.proofs.AdmissionLaws.{admitted_parted}
use Rattle.definition.specs.18-Admission.{admission}
use Rattle.definition.specs.31-Outcome.{finding, all_checks}
use Rattle.words.specs.Meanings.{run_meant}
use Rattle.checker.proofs.ReportLaws.{stop_on, stop_reported, case_lent, answered, answered_admitted}
use Rattle.checker.proofs.checks.check.Goals as goal

pub returns-in_err-admit_into : goal.returns-in_err-admit_into
unfolding finding all_checks admission
returns-in_err-admit_into c =
    let e : c.from_residual.result ≡ Err c.in_err-admit_into.field-0.0 = search rules in
    rw e (answered _ _ _ _ (stop_reported _ _ _ _ (stop_on _ _ _ c.in_err-admit_into.ensures.0)))

pub part-requires : goal.part-requires
unfolding run_meant
part-requires c = (admitted_parted _ (sym c.in_ok-admit_into.ensures.0), omega arith)

pub invariant_of-case : goal.invariant_of-case
invariant_of-case c = record { lent = case_lent _ _ _ _ c.in_ok-admit_into.ensures.0 c.part.ensures refl c.in_ok-admit_into.ensures.1 }

pub returns : goal.returns
returns c = answered_admitted _ _ _ _ c.in_ok-admit_into.ensures.0 c.check_admitted.ensures
