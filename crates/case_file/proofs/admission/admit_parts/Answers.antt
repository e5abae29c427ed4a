-- `admit_parts` meets its contract: checks 3 and 4, and then 5. Assumes nothing.
use Rattle.std.proofs.Common.{rules, ℕ, List, Err}
use mathlib.Core.Path.{◌≡◌, ap, ◌∙◌}
use native.Mathlib.Omega.{arith}
use Rattle.definition.proofs.PartLaws.{part_few, held_count}
use Rattle.definition.specs.04-Checks.{Checked, in_order}
use Rattle.definition.specs.11-Layout.{log_part, observer_part, most_records, part, agent_of}
use Rattle.definition.specs.13-Formulas.{Formula}
use Rattle.definition.specs.14-Book.{book}
use Rattle.definition.specs.15-Records.{log_of, formulas, log_checks}
use Rattle.words.proofs.CheckRuns.{run_stops, run_goes_on}
use Rattle.words.specs.Meanings.{run_meant}
use Rattle.case_file.specs.AdmissionRuns.{from_book}
use Rattle.case_file.specs.Seen.{log_with, SeenUpTo, first_bad_row}
use Rattle.case_file.proofs.AdmissionBranches.{book_answer, booked, none_entered, rows_entered}
use Rattle.case_file.proofs.admission.admit_parts.Goals as goal

pub returns-in_err-admit : goal.returns-in_err-admit
unfolding run_meant from_book
returns-in_err-admit c =
    let no = book_answer _ c.requires.0 c.part-book.ensures c.in_err-admit.ensures in
    let e : c.from_residual.result ≡ Err c.in_err-admit.field-0.0 = search rules in
    (rw e (run_stops _ _ no), none_entered _ _ no)

pub check_log-requires : goal.check_log-requires
unfolding run_meant most_records
check_log-requires c =
    let f = c.requires.0 in
    let ok = book_answer _ f c.part-book.ensures c.in_ok-admit.ensures in
    ((booked _ f c.part-book.ensures ok).book, rw (c.log_of.ensures.0, held_count _ f log_part (omega arith)) (part_few _ f log_part (omega arith)), c.requires.1)

-- What check 5 says of a log whose bytes are those of the file's two parts, it says of the file's log.
of_parts :
    (s : List ℕ) {rows observers : List ℕ} {a : ℕ} {l : List Formula} {run : Checked (Unit {0})} {before after : List ℕ} →
    (run ≡ in_order (log_checks (log_with rows observers) l)) × SeenUpTo (log_with rows observers) a (first_bad_row (log_with rows observers) l) before after →
    l ≡ formulas s → a ≡ agent_of s → rows ≡ part s log_part → observers ≡ part s observer_part →
    (run ≡ in_order (log_checks (log_of s) (formulas s))) × SeenUpTo (log_of s) (agent_of s) (first_bad_row (log_of s) (formulas s)) before after
unfolding log_of
of_parts s is trees agent first second = rw (first, second, trees, agent) at is

pub returns : goal.returns
unfolding run_meant from_book formulas
returns c =
    let ok = book_answer _ c.requires.0 c.part-book.ensures c.in_ok-admit.ensures in
    let is = of_parts c.args.file.now c.check_log.ensures (ap book c.part-book.ensures) c.agent_of.ensures (search rules) (search rules) in
    (is.0 ∙ run_goes_on _ ok, rows_entered _ ok is.1)
