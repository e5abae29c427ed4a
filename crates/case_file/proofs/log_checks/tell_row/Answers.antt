-- `tell_row` meets its contract: the action, the span and the list are the definition's three tests, and the list tells whether the agent sees the row. Assumes nothing.
use Prim.Native.Nat.{◌+◌}
use mathlib.Core.Path.{◌≡◌, sym, ap, ◌∙◌}
use mathlib.Core.Bool.{Bool}
use native.Mathlib.Omega.{arith}
use Rattle.std.proofs.Common.{rules, None}
use Rattle.std.specs.Prelude.{Option}
use Rattle.definition.specs.11-Layout.{record_bytes, records_in}
use Rattle.definition.specs.14-Book.{book}
use Rattle.definition.specs.15-Records.{rows_in, observers_in, row_action, row_from, row_count, bad_action}
use Rattle.case_file.specs.Seen.{log_with, view_code, list_answer, row_answer}
use Rattle.case_file.proofs.SeenTable.{row_span, span_told, span_within, listed, action_bad, span_bad, row_listed}
use Rattle.case_file.proofs.log_checks.tell_row.Goals as goal
use Rattle.case_file.proofs.log_checks.tell_row.Goals.{After-bad_action, After-bad_span, After-look, then-seen, else-seen, then-bad_action-via-then-bad_action, then-bad_action-via-else-bad_action+then-bad_span}

action_is : (c : After-bad_action) → c.bad_action.result ≡ bad_action (book c.args.book.now) (row_action (log_with c.args.log.now.rows.now c.args.log.now.observers.now) c.args.k)
unfolding row_action
action_is c = c.bad_action.ensures ∙ ap (bad_action (book c.args.book.now)) c.log_row_at-row.ensures.action

span_is : (c : After-bad_span) → c.bad_span.result ≡ row_span (log_with c.args.log.now.rows.now c.args.log.now.observers.now) c.args.k
unfolding row_from row_count rows_in observers_in
span_is c =
    let row = c.log_row_at-row.ensures in
    span_told _ _ c.requires.due_value row.from row.len c.records_in.ensures c.records_in-entries.ensures c.bad_span.ensures

-- What the row comes to by the answer of its list.
heard :
    (c : After-look) (a : Option Bool) → a ≡ list_answer c.args.log.now.observers.now c.args.agent c.log_row_at-row.result.from c.log_row_at-row.result.len →
    listed a c.log_row_at-row.result.action (c.log_row_at-row.result.from + c.log_row_at-row.result.len)
    ≡ row_answer (log_with c.args.log.now.rows.now c.args.log.now.observers.now) c.args.agent (book c.args.book.now) c.args.k
unfolding row_action row_from row_count rows_in observers_in
heard c a is =
    let row = c.log_row_at-row.ensures in
    row_listed (log_with c.args.log.now.rows.now c.args.log.now.observers.now) c.args.agent (book c.args.book.now) c.args.k _ _ _
    row.action row.from row.len (sym (c.bad_action.ensures ∙ ap (bad_action (book c.args.book.now)) row.action) ∙ c.if-bad_action.false)
    (sym (span_told _ _ c.requires.due_value row.from row.len c.records_in.ensures c.records_in-entries.ensures c.bad_span.ensures) ∙ c.if-bad_span.false) a is

pub overflow_add-last : goal.overflow_add-last
unfolding records_in record_bytes
overflow_add-last c = omega (arith, c.requires.admitted_book.1)

pub returns-then-bad_action : goal.returns-then-bad_action
unfolding row_from row_count rows_in observers_in
returns-then-bad_action c =
    let row = c.log_row_at-row.ensures in
    elim c.then-bad_action.branch [
      | then-bad_action-via-then-bad_action w ↦ action_bad _ _ _ _ (sym (action_is (goal.at.returns-then-bad_action c).After-bad_action) ∙ w.if-bad_action.true)
      | then-bad_action-via-else-bad_action+then-bad_span w ↦
          span_bad _ _ _ _ (sym (span_told _ _ c.requires.due_value row.from row.len c.records_in.ensures c.records_in-entries.ensures w.bad_span.ensures) ∙ w.if-bad_span.true)
    ]

pub look-requires : goal.look-requires
unfolding row_from row_count observers_in
look-requires c =
    let row = c.log_row_at-row.ensures in
    omega (arith, span_within _ _ (sym (span_is (goal.at.look-requires c).After-bad_span) ∙ c.if-bad_span.false), row.from, row.len)

pub returns-in_err-seen : goal.returns-in_err-seen
unfolding listed
returns-in_err-seen c =
    let e : c.from_residual.result ≡ None = search rules in
    rw e (heard (goal.at.returns-in_err-seen c).After-look _ c.in_err-seen.ensures)

pub returns : goal.returns
unfolding listed view_code
returns c =
    let code : c.if-seen.code ≡ view_code c.in_ok-seen.seen c.log_row_at-row.result.action =
    elim c.if-seen.branch [ then-seen w ↦ rw w.if-seen.true w.code-is | else-seen w ↦ rw w.if-seen.false w.code-is ] in
    rw code (heard (goal.at.returns c).After-look _ c.in_ok-seen.ensures)
