-- `list_cited` meets its contract: check 23, and the two lists. Assumes nothing.
use Rattle.std.proofs.Common.{rules, arith, Err, ◌≡◌}
use Prim.Native.Nat.{ℕ, ◌+◌, ◌≤◌}
use mathlib.Core.Path.{sym, ap, ◌∙◌}
use mathlib.Core.List.{List}
use borrow.Author.Tests.{ltb-false}
use lib.Dec.{ltb}
use lib.ListN.{length}
use Rattle.definition.specs.02-Ranges.{members}
use Rattle.definition.specs.04-Checks.{try, single, in_order}
use Rattle.definition.proofs.CheckLaws.{try_accepts}
use Rattle.definition.proofs.PartLaws.{log_rows}
use Rattle.definition.specs.11-Layout.{obligation_part, count}
use Rattle.definition.specs.15-Records.{log_of, rows_in}
use Rattle.definition.specs.17-Case.{case_of}
use Rattle.definition.specs.31-Outcome.{needed, short_room, room_checks, discharged_list, cited_list}
use Rattle.tables.specs.Sets.{marks}
use Rattle.steps.specs.WorkingTables.{state_of}
use Rattle.case_file.proofs.LentCaseLaws.{obligations_few, rows_few}
use Rattle.words.proofs.CheckRuns.{last_check}
use Rattle.words.specs.Meanings.{run_meant}
use Rattle.checker.proofs.ReportLaws.{stop_reported, listing_passed}
use Rattle.checker.specs.Reports.{listing}
use Rattle.checker.proofs.ending.list_cited.Goals as goal
use Rattle.checker.proofs.ending.list_cited.Goals.{After-count_marked-r, In_ok-single}

duties_are : (c : After-count_marked-r) → c.count_marked-d.result ≡ length (members (marks c.args.tables.now.discharged) (count c.args.file.now obligation_part) 0)
duties_are c = rw c.count_of-obligations.ensures.0 at c.count_marked-d.ensures.0

rows_of : (c : After-count_marked-r) → c.count_of-rows.result ≡ rows_in (log_of c.args.file.now)
rows_of c = c.count_of-rows.ensures.0 ∙ sym (log_rows _ c.requires)

rows_are : (c : After-count_marked-r) → c.count_marked-r.result ≡ length (members (marks c.args.tables.now.cited) (rows_in (log_of c.args.file.now)) 0)
rows_are c = rw (rows_of c) at c.count_marked-r.ensures.0

-- Check 23, by what is needed as it was counted.
room_check : (c : After-count_marked-r) (l : List ℕ) → try (single 23 (c.count_marked-d.result + c.count_marked-r.result) (ltb (length c.args.room.now) (c.count_marked-d.result + c.count_marked-r.result))) ≡ in_order (room_checks (case_of c.args.file.now) (state_of l c.args.tables.now.cited c.args.tables.now.discharged) (length c.args.room.now))
unfolding room_checks short_room needed discharged_list cited_list state_of case_of
room_check c l = ap (λ n. try (single 23 n (ltb (length c.args.room.now) n))) (λ i. duties_are c i + rows_are c i) ∙ last_check _

few_duties : (c : After-count_marked-r) → c.count_marked-d.result ≤ 64
few_duties c = omega (arith, c.count_marked-d.ensures.1, c.count_of-obligations.ensures.0, obligations_few _ c.requires)

few_rows : (c : After-count_marked-r) → c.count_marked-r.result ≤ 1024
few_rows c = omega (arith, c.count_marked-r.ensures.1, rows_of c, rows_few _ c.requires)

room_left : (c : In_ok-single) → c.count_marked-d.result + c.count_marked-r.result ≤ length c.args.room.now
unfolding run_meant
room_left c = ltb-false _ _ (try_accepts _ (sym c.in_ok-single.ensures))

pub count_marked-d-requires : goal.count_marked-d-requires
count_marked-d-requires c = omega (arith, c.count_of-obligations.ensures.0, obligations_few _ c.requires, c.args.tables.now.discharged_long)

pub count_marked-r-requires : goal.count_marked-r-requires
count_marked-r-requires c = omega (arith, c.count_of-rows.ensures.0, log_rows _ c.requires, rows_few _ c.requires, c.args.tables.now.cited_long)

pub overflow_add-needed : goal.overflow_add-needed
overflow_add-needed c = omega (arith, few_duties c, few_rows c)

pub overflow_cast-needed : goal.overflow_cast-needed
overflow_cast-needed c = let k = (goal.at.overflow_cast-needed c).After-count_marked-r in omega (arith, few_duties k, few_rows k)

pub returns-in_err-single : goal.returns-in_err-single
unfolding listing
returns-in_err-single c l =
    let e : c.from_residual.result ≡ Err c.in_err-single.field-0.0 = search rules in
    rw e (stop_reported _ _ _ _ (c.in_err-single.ensures ∙ room_check (goal.at.returns-in_err-single c).After-count_marked-r l))

pub write_lists-requires-clause-obligations_in_bounds : goal.write_lists-requires-clause-obligations_in_bounds
write_lists-requires-clause-obligations_in_bounds c =
    let duties = c.count_of-obligations.ensures.0 in
    let rows = c.count_of-rows.ensures.0 ∙ sym (log_rows _ c.requires) in
    let few = obligations_few _ c.requires in
    let few_rows = rows_few _ c.requires in
    (omega (arith, duties, few, c.args.tables.now.discharged_long), omega (arith, duties, few), omega (arith, rows, few_rows, c.args.tables.now.cited_long), omega (arith, rows, few_rows))

pub write_lists-requires-clause-d_value : goal.write_lists-requires-clause-d_value
write_lists-requires-clause-d_value c = (c.count_marked-d.ensures.0, omega (arith, c.count_marked-r.ensures.0, room_left (goal.at.write_lists-requires-clause-d_value c).In_ok-single))

pub overflow_cast-result : goal.overflow_cast-result
overflow_cast-result c = omega (arith, few_duties (goal.at.overflow_cast-result c).After-count_marked-r)

pub overflow_cast-result-2 : goal.overflow_cast-result-2
overflow_cast-result-2 c = omega (arith, few_rows (goal.at.overflow_cast-result-2 c).After-count_marked-r)

pub returns : goal.returns
unfolding state_of discharged_list cited_list case_of
returns c l =
    let s = c.args.file.now in
    let k = (goal.at.returns c).After-count_marked-r in
    let written = rw (c.count_of-obligations.ensures.0, rows_of k, sym (rows_are k)) at c.write_lists.ensures in
    listing_passed (case_of s) (state_of l c.args.tables.now.cited c.args.tables.now.discharged) c.args.room.now _ _ _ (duties_are k) (rows_are k) (c.in_ok-single.ensures ∙ room_check k l) written
