-- `check_row` meets its contract: the entry first, then what the agent sees of the row. Assumes nothing.
use Rattle.std.proofs.Common.{rules, Ok, Err}
use mathlib.Core.Path.{◌≡◌, sym, ap, ◌∙◌}
use native.Mathlib.Omega.{arith}
use Rattle.definition.specs.04-Checks.{try, single, in_order}
use Rattle.definition.proofs.PartLaws.{log_rows}
use Rattle.definition.specs.15-Records.{log_of, rows_in, formulas}
use Rattle.definition.specs.17-Case.{case_of}
use Rattle.definition.specs.22-Steps.{is_hidden, is_struck}
use Rattle.case_file.specs.Meanings.{view_meant}
use Rattle.case_file.proofs.LentCaseLaws.{parted, rows_few, row_looked}
use Rattle.words.proofs.CheckRuns.{run_stops, run_goes_on, checks_stop, checks_go_on, last_check}
use Rattle.words.specs.Meanings.{run_meant}
use Rattle.step_shape.specs.EntryChecks.{entry_checks}
use Rattle.step_shape.proofs.CitationLaws.{entry_there, row_checks}
use Rattle.step_shape.proofs.citations.check_row.Goals as goal
use Rattle.step_shape.proofs.citations.check_row.Goals.{in-Hidden, in_default, After-view_at-view}

-- The entry is there.
entered : (v : After-view_at-view) → run_meant (Ok v.in_ok-check_entry.field-0) ≡ in_order (entry_checks (rows_in (log_of v.args.case.now.file.now)) v.args.argument v.args.place)
entered v = rw (v.count_of.ensures.0, ← log_rows _ (parted v.args.case.now.lent.lent)) at v.in_ok-check_entry.ensures

-- The row as the agent sees it.
looked : (v : After-view_at-view) → (case_of v.args.case.now.file.now).row v.args.argument ≡ view_meant (formulas v.args.case.now.file.now) v.view_at-view.result
unfolding run_meant
looked v = let k = v.args.case.now in
    row_looked k.file.now k.book.now k.views.now v.args.argument k.lent (entry_there _ _ _ (entered v)) _ (v.view_at-view.ensures (formulas k.file.now))

pub returns-in_err-check_entry : goal.returns-in_err-check_entry
unfolding case_of
returns-in_err-check_entry c = let a = c.args in
    let e : c.from_residual.result ≡ Err c.in_err-check_entry.field-0.0 = search rules in
    rw e
    (run_stops _ _ (rw (c.count_of.ensures.0, ← log_rows _ (parted a.case.now.lent.lent)) at c.in_err-check_entry.ensures)
    ∙ row_checks (case_of a.case.now.file.now) a.argument a.place)

pub view_at-view-requires : goal.view_at-view-requires
unfolding run_meant
view_at-view-requires c = let l = c.args.case.now.lent in
    let there = entry_there _ _ _ (rw (c.count_of.ensures.0, ← log_rows _ (parted l.lent)) at c.in_ok-check_entry.ensures) in
    (omega (arith, there, rows_few _ (parted l.lent)), l.long)

pub returns-in_err-single : goal.returns-in_err-single
unfolding is_hidden view_meant case_of
returns-in_err-single c = let a = c.args in
    let v = (goal.at.returns-in_err-single c).After-view_at-view in
    let e : c.from_residual-in_err-single.result ≡ Err c.in_err-single.field-0.0 = search rules in
    let is : c.match-matches.matches ≡ is_hidden (view_meant (formulas a.case.now.file.now) c.view_at-view.result) = search rules in
    let hidden = is ∙ sym (ap is_hidden (looked v)) in
    rw e
    (checks_stop _ _ _ (c.in_err-single.ensures ∙ ap (λ b. try (single 16 a.place b)) hidden) ∙ run_goes_on _ (entered v)
    ∙ row_checks (case_of a.case.now.file.now) a.argument a.place)

pub returns : goal.returns
unfolding is_hidden is_struck view_meant case_of
returns c = let a = c.args in
    let v = (goal.at.returns c).After-view_at-view in
    let is : c.match-matches.matches ≡ is_hidden (view_meant (formulas a.case.now.file.now) c.view_at-view.result) = search rules in
    let so : c.match-matches-2.matches ≡ is_struck (view_meant (formulas a.case.now.file.now) c.view_at-view.result) = search rules in
    let hidden = is ∙ sym (ap is_hidden (looked v)) in
    let struck = so ∙ sym (ap is_struck (looked v)) in
    c.single-2.ensures ∙ ap (λ b. try (single 14 a.place b)) struck ∙ last_check _
    ∙ checks_go_on _ _ _ (c.in_ok-single.ensures ∙ ap (λ b. try (single 16 a.place b)) hidden)
    ∙ run_goes_on _ (entered v) ∙ row_checks (case_of a.case.now.file.now) a.argument a.place
