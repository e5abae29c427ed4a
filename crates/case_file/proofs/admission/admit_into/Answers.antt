-- `admit_into` meets its contract: checks 1 to 5, and then 6 to 9. Assumes nothing.
use Rattle.std.proofs.Common.{rules, Err}
use mathlib.Core.Path.{◌≡◌, sym, ◌∙◌}
use native.Mathlib.Omega.{arith}
use Rattle.definition.proofs.AdmissionLaws.{records_last, logged_parted}
use Rattle.words.proofs.CheckRuns.{run_stops, run_goes_on}
use Rattle.words.specs.Meanings.{run_meant}
use Rattle.case_file.proofs.Laws.{logged_booked}
use Rattle.case_file.proofs.admission.admit_into.Goals as goal

pub returns-in_err-admit_log : goal.returns-in_err-admit_log
returns-in_err-admit_log c =
    let log = c.in_err-admit_log.ensures in
    let e : c.from_residual.result ≡ Err c.in_err-admit_log.field-0.0 = search rules in
    (rw e (run_stops _ _ log.0 ∙ sym (records_last _)), log.1)

pub part-requires : goal.part-requires
unfolding run_meant
part-requires c = (logged_parted _ (sym c.in_ok-admit_log.ensures.0), omega arith)

pub check_records-requires : goal.check_records-requires
unfolding run_meant
check_records-requires c = logged_booked _ (sym c.in_ok-admit_log.ensures.0) c.part.ensures

pub returns : goal.returns
returns c =
    let log = c.in_ok-admit_log.ensures in
    (c.check_records.ensures ∙ run_goes_on _ log.0 ∙ sym (records_last _), log.1)
