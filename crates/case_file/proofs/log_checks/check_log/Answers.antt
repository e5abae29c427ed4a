-- `check_log` meets its contract: check 5, at the first bad row, and the table of the rows before it. Assumes nothing.
use mathlib.Core.Path.{◌≡◌, sym, ◌∙◌}
use native.Mathlib.Omega.{arith}
use Prim.Native.Nat.{◌<◌, ◌≤◌}
use Rattle.definition.proofs.CheckLaws.{lowest_fails, lowest_holds, stops, hold_all}
use Rattle.definition.proofs.Spans.{due_first, due_next}
use Rattle.definition.specs.02-Ranges.{lowest}
use Rattle.definition.specs.14-Book.{book}
use Rattle.definition.specs.15-Records.{rows_in, bad_log_row, log_checks}
use Rattle.words.proofs.Searches.{passed_start, passed_more, passed_found, passed_all}
use Rattle.words.specs.Meanings.{run_meant}
use Rattle.case_file.specs.Seen.{log_with, first_bad_row}
use Rattle.case_file.proofs.SeenTable.{answer_bad, answer_good, seen_none, seen_more}
use Rattle.case_file.proofs.log_checks.check_log.Goals as goal

pub loop-k-init : goal.loop-k-init
loop-k-init c = record { next = due_first _ _; good = passed_start _ _; table = seen_none _ _ _ }

pub returns-in_default : goal.returns-in_default
unfolding run_meant log_checks first_bad_row rows_in
returns-in_default c =
    let g = log_with c.args.log.now.rows.now c.args.log.now.observers.now in
    let l = c.loop-k in
    let v = l.invariant in
    let lt : l.k < rows_in g = omega (arith, c.records_in-k-end.ensures, c.loop-k-test.true) in
    let here : l.k ≡ lowest (bad_log_row g (book c.args.book.now)) (rows_in g) 0 = passed_found _ _ v.good lt (answer_bad _ _ _ l.k c.in_default.ensures) in
    (sym (stops _ _ 5 _ (lowest_fails 5 _ here lt)), rw (← here) v.table)

pub loop-k-preserved : goal.loop-k-preserved
unfolding rows_in
loop-k-preserved c =
    let l = c.loop-k in
    let v = l.invariant in
    let lt = c.loop-k-test.true in
    let rows = c.records_in-k-end.ensures in
    let h = answer_good _ _ _ l.k c.in-Some.code c.in-Some.end c.in-Some.ensures in
    record {
      next = h.2 ∙ due_next _ _ l.k;
      good = passed_more _ _ v.good (omega (arith, rows, lt)) h.0;
      table = seen_more _ _ l.k _ l.views _ v.table (omega (arith, rows, lt, c.requires.1, c.requires.2, v.table.long)) h.1;
    }

pub returns : goal.returns
unfolding run_meant log_checks first_bad_row rows_in
returns c =
    let g = log_with c.args.log.now.rows.now c.args.log.now.observers.now in
    let l = c.loop-k in
    let v = l.invariant in
    let le : rows_in g ≤ l.k = omega (arith, c.records_in-k-end.ensures, c.loop-k-test.false) in
    let end : l.k ≡ rows_in g = omega (arith, v.good.within, le) in
    let all : l.k ≡ lowest (bad_log_row g (book c.args.book.now)) (rows_in g) 0 = end ∙ passed_all _ _ v.good le in
    (sym (hold_all _ (lowest_holds 5 _ all le, tt)), rw (← all) v.table)
