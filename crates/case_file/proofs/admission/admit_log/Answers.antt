-- `admit_log` meets its contract: checks 1 and 2, and then 3 to 5. Assumes nothing.
use Rattle.std.proofs.Common.{rules, Err}
use mathlib.Core.Path.{◌≡◌, sym, ◌∙◌}
use Rattle.definition.proofs.AdmissionLaws.{to_log_groups, layout_parted}
use Rattle.definition.proofs.CheckLaws.{all_hold}
use Rattle.definition.specs.11-Layout.{layout_checks}
use Rattle.words.proofs.CheckRuns.{run_stops, run_goes_on}
use Rattle.words.specs.Meanings.{run_meant}
use Rattle.case_file.specs.AdmissionRuns.{before_log, from_book}
use Rattle.case_file.proofs.AdmissionBranches.{none_entered, as_entered}
use Rattle.case_file.proofs.admission.admit_log.Goals as goal

pub returns-in_err-check_layout : goal.returns-in_err-check_layout
unfolding run_meant before_log
returns-in_err-check_layout c =
    let no = c.in_err-check_layout.ensures in
    let e : c.from_residual.result ≡ Err c.in_err-check_layout.field-0.0 = search rules in
    (rw e (run_stops _ _ no ∙ sym (to_log_groups _)), none_entered _ _ (run_stops _ _ no))

pub admit_parts-requires : goal.admit_parts-requires
unfolding run_meant
admit_parts-requires c = (layout_parted (all_hold (layout_checks _) (sym c.in_ok-check_layout.ensures)), c.requires)

pub returns : goal.returns
unfolding run_meant before_log from_book
returns c =
    let ok = c.in_ok-check_layout.ensures in
    (c.admit_parts.ensures.0 ∙ run_goes_on _ ok ∙ sym (to_log_groups _), as_entered _ (run_goes_on _ ok) c.admit_parts.ensures.1)
