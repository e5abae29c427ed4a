-- `check_records` meets its contract: checks 6 to 9, in order. Assumes nothing.
use Rattle.std.proofs.Common.{rules, Ok, Err}
use mathlib.Core.Path.{◌≡◌, ap, ◌∙◌}
use native.Mathlib.Omega.{arith}
use Rattle.definition.specs.04-Checks.{try, single, each}
use Rattle.definition.specs.11-Layout.{condition_part, obligation_part, label_part, count, most_records}
use Rattle.definition.specs.15-Records.{log_of, rows_in, formulas, bad_condition, bad_obligation, bad_label, record_checks}
use Rattle.words.proofs.CheckRuns.{checks_stop, checks_go_on, last_check}
use Rattle.words.specs.Meanings.{run_meant}
use Rattle.case_file.proofs.record_checks.check_records.Goals as goal
use Rattle.case_file.proofs.record_checks.check_records.Goals.{After-count_of-2, After-count_of-3, After-bad_audit}

-- Checks 6, 7 and 8, where the code goes on behind them.
passed_6 : (c : After-count_of-2) → run_meant (Ok c.in_ok-each.field-0) ≡ try (each 6 (count c.args.file.now condition_part) (bad_condition c.args.file.now (formulas c.args.file.now)))
passed_6 c =
    let bad = bad_condition c.args.file.now (formulas c.args.file.now) in
    c.in_ok-each.ensures bad (λ k b below post. search rules) ∙ ap (λ n. try (each 6 n bad)) c.count_of.ensures.0

passed_7 : (c : After-count_of-3) → run_meant (Ok c.in_ok-each-2.field-0) ≡ try (each 7 (count c.args.file.now obligation_part) (bad_obligation c.args.file.now (formulas c.args.file.now) (rows_in (log_of c.args.file.now))))
passed_7 c =
    let bad = bad_obligation c.args.file.now (formulas c.args.file.now) (rows_in (log_of c.args.file.now)) in
    c.in_ok-each-2.ensures bad (λ k b below post. search rules) ∙ ap (λ n. try (each 7 n bad)) c.count_of-2.ensures.0

passed_8 : (c : After-bad_audit) → run_meant (Ok c.in_ok-each-3.field-0) ≡ try (each 8 (count c.args.file.now label_part) (bad_label c.args.file.now (formulas c.args.file.now)))
passed_8 c =
    let bad = bad_label c.args.file.now (formulas c.args.file.now) in
    c.in_ok-each-3.ensures bad (λ k b below post. search rules) ∙ ap (λ n. try (each 8 n bad)) c.count_of-3.ensures.0

pub each-requires-clause-fits : goal.each-requires-clause-fits
unfolding most_records
each-requires-clause-fits c = omega (arith, c.count_of.ensures.1)

pub returns-in_err-each : goal.returns-in_err-each
unfolding record_checks
returns-in_err-each c =
    let s = c.args.file.now in
    let bad = bad_condition s (formulas s) in
    let e : c.from_residual.result ≡ Err c.in_err-each.field-0.0 = search rules in
    rw e (checks_stop _ _ _ (c.in_err-each.ensures bad (λ k b below post. search rules) ∙ ap (λ n. try (each 6 n bad)) c.count_of.ensures.0))

pub each-requires-2-clause-fits : goal.each-requires-2-clause-fits
unfolding most_records
each-requires-2-clause-fits c = omega (arith, c.count_of-2.ensures.1)

pub returns-in_err-each-2 : goal.returns-in_err-each-2
unfolding record_checks
returns-in_err-each-2 c =
    let s = c.args.file.now in
    let bad = bad_obligation s (formulas s) (rows_in (log_of s)) in
    let e : c.from_residual-in_err-each-2.result ≡ Err c.in_err-each-2.field-0.0 = search rules in
    rw e
    (checks_stop _ _ _ (c.in_err-each-2.ensures bad (λ k b below post. search rules) ∙ ap (λ n. try (each 7 n bad)) c.count_of-2.ensures.0)
    ∙ checks_go_on _ _ _ (passed_6 (goal.at.returns-in_err-each-2 c).After-count_of-2))

pub each-requires-3-clause-fits : goal.each-requires-3-clause-fits
unfolding most_records
each-requires-3-clause-fits c = omega (arith, c.count_of-3.ensures.1)

pub returns-in_err-each-3 : goal.returns-in_err-each-3
unfolding record_checks
returns-in_err-each-3 c =
    let s = c.args.file.now in
    let bad = bad_label s (formulas s) in
    let e : c.from_residual-in_err-each-3.result ≡ Err c.in_err-each-3.field-0.0 = search rules in
    rw e
    (checks_stop _ _ _ (c.in_err-each-3.ensures bad (λ k b below post. search rules) ∙ ap (λ n. try (each 8 n bad)) c.count_of-3.ensures.0)
    ∙ checks_go_on _ _ _ (passed_7 (goal.at.returns-in_err-each-3 c).After-count_of-3)
    ∙ checks_go_on _ _ _ (passed_6 (goal.at.returns-in_err-each-3 c).After-count_of-2))

pub returns : goal.returns
unfolding record_checks
returns c =
    c.single.ensures ∙ ap (λ b. try (single 9 0 b)) c.bad_audit.ensures ∙ last_check _
    ∙ checks_go_on _ _ _ (passed_8 (goal.at.returns c).After-bad_audit)
    ∙ checks_go_on _ _ _ (passed_7 (goal.at.returns c).After-count_of-3)
    ∙ checks_go_on _ _ _ (passed_6 (goal.at.returns c).After-count_of-2)
