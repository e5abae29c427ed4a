-- `check_condition` meets its contract: the entry first, then its reading. Assumes nothing.
use Rattle.std.proofs.Common.{rules, Err}
use mathlib.Core.Path.{◌≡◌, sym, ap, ◌∙◌}
use lib.Dec.{eqb}
use Rattle.definition.specs.01-Words.{absent}
use Rattle.definition.specs.04-Checks.{try, single}
use Rattle.definition.specs.17-Case.{case_of}
use Rattle.words.proofs.CheckRuns.{run_stops, run_goes_on, last_check}
use Rattle.words.specs.Meanings.{run_meant}
use Rattle.step_shape.proofs.CitationLaws.{entry_there, condition_checks, no_reading}
use Rattle.step_shape.proofs.citations.check_condition.Goals as goal

pub returns-in_err-check_entry : goal.returns-in_err-check_entry
unfolding case_of
returns-in_err-check_entry c =
    let e : c.from_residual.result ≡ Err c.in_err-check_entry.field-0.0 = search rules in
    rw e (run_stops _ _ (rw c.count_of.ensures.0 at c.in_err-check_entry.ensures) ∙ condition_checks (case_of c.args.file.now) c.args.argument c.args.place)

pub condition_formula-reading-requires : goal.condition_formula-reading-requires
unfolding run_meant
condition_formula-reading-requires c = (c.requires, entry_there _ _ _ (rw c.count_of.ensures.0 at c.in_ok-check_entry.ensures))

pub returns : goal.returns
unfolding case_of
returns c = let a = c.args in
    let reading = ap (λ n. eqb n absent) c.condition_formula-reading.ensures ∙ sym (no_reading a.file.now a.argument) in
    c.single.ensures ∙ ap (λ b. try (single 14 a.place b)) reading ∙ last_check _ ∙ run_goes_on _ (rw c.count_of.ensures.0 at c.in_ok-check_entry.ensures)
    ∙ condition_checks (case_of a.file.now) a.argument a.place
