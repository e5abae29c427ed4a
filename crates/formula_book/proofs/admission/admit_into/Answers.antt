-- `admit_into` meets its contract: checks 2 to 4, in order, and the column is the definition's. Assumes nothing.
use Rattle.std.proofs.Common.{rules, Ok, Err}
use mathlib.Core.Path.{◌≡◌, refl, sym, ap, ◌∙◌}
use mathlib.Core.Bool.{false}
use Rattle.definition.proofs.CheckLaws.{try_accepts, try_refuses}
use Rattle.definition.proofs.SizeColumns.{column_kept, column_below, few_rows}
use Rattle.definition.specs.04-Checks.{try, single}
use Rattle.definition.specs.14-Book.{is_misshapen, book_checks, book_admission}
use Rattle.words.proofs.CheckRuns.{checks_stop, checks_go_on, last_check}
use Rattle.words.specs.Meanings.{run_meant}
use Rattle.formula_book.proofs.admission.admit_into.Goals as goal
use Rattle.formula_book.proofs.admission.admit_into.Goals.{In_ok-single}

-- Check 2 holds, so the bytes are whole rows, and few.
first : (c : In_ok-single) → run_meant (Ok c.in_ok-single.field-0) ≡ try (single 2 0 (is_misshapen c.args.book.now))
first c = c.in_ok-single.ensures ∙ ap (λ b. try (single 2 0 b)) c.is_misshapen.ensures

whole : (c : In_ok-single) → is_misshapen c.args.book.now ≡ false
unfolding run_meant
whole c = try_accepts (single 2 0 (is_misshapen c.args.book.now)) (sym (first c))

pub returns-in_err-single : goal.returns-in_err-single
unfolding run_meant book_admission
returns-in_err-single c =
    let e : c.from_residual.result ≡ Err c.in_err-single.field-0.0 = search rules in
    let is = c.in_err-single.ensures ∙ ap (λ b. try (single 2 0 b)) c.is_misshapen.ensures in
    (rw e (checks_stop _ _ _ is), sym (column_kept _ _ (try_refuses (single 2 0 (is_misshapen c.args.book.now)) _ _ (sym is)).2))

pub check_rows-requires : goal.check_rows-requires
check_rows-requires c = (few_rows _ (whole (goal.at.check_rows-requires c).In_ok-single), c.requires)

pub returns-in_err-check_rows : goal.returns-in_err-check_rows
unfolding book_admission book_checks
returns-in_err-check_rows c =
    let ok = (goal.at.returns-in_err-check_rows c).In_ok-single in
    let e : c.from_residual-in_err-check_rows.result ≡ Err c.in_err-check_rows.field-0.0 = search rules in
    (rw e (checks_stop _ _ _ c.in_err-check_rows.ensures.0 ∙ checks_go_on _ _ _ (first ok)), column_below _ _ c.requires (whole ok) refl c.check_rows.ensures.1)

pub check_repeats-requires : goal.check_repeats-requires
check_repeats-requires c = few_rows _ (whole (goal.at.check_repeats-requires c).In_ok-single)

pub returns : goal.returns
unfolding book_admission book_checks
returns c =
    let ok = (goal.at.returns c).In_ok-single in
    (c.check_repeats.ensures ∙ last_check _ ∙ checks_go_on _ _ _ c.in_ok-check_rows.ensures.0 ∙ checks_go_on _ _ _ (first ok), column_below _ _ c.requires (whole ok) refl c.check_rows.ensures.1)
