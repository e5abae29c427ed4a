-- `check_closing` meets its contract: checks 20 to 22, in order. Assumes nothing.
use Rattle.std.proofs.Common.{rules, arith, Err, Ok, ◌≡◌}
use Prim.Native.Nat.{◌-◌, ◌≤◌}
use mathlib.Core.Path.{ap, ◌∙◌}
use mathlib.Core.Bool.{Bool}
use mathlib.Core.List.{List}
use Rattle.definition.specs.04-Checks.{try, single, each}
use Rattle.definition.specs.11-Layout.{step_part, count}
use Rattle.definition.specs.17-Case.{case_of}
use Rattle.definition.specs.31-Outcome.{last_step, unused_step, open_label, closing_checks}
use Rattle.words.specs.Meanings.{run_meant}
use Rattle.steps.specs.WorkingTables.{state_of}
use Rattle.tables.specs.Sets.{labels_of, opens_of}
use Rattle.case_file.proofs.LentCaseLaws.{parted, steps_few, labels_few}
use Rattle.words.proofs.CheckRuns.{checks_stop, checks_go_on, last_check}
use Rattle.checker.proofs.ending.check_closing.Goals as goal
use Rattle.checker.proofs.ending.check_closing.Goals.{After-count_of-labels, In_ok-each}

few_steps : (c : After-count_of-labels) → c.count_of-last.result ≤ 2048
few_steps c = omega (arith, c.count_of-last.ensures.0, steps_few _ (parted c.args.case.now.lent.lent))

few_labels : (c : After-count_of-labels) → c.count_of-labels.result ≤ 32
few_labels c = omega (arith, c.count_of-labels.ensures.0, labels_few _ (parted c.args.case.now.lent.lent))

-- Check 20, where it lets the case pass.
unused_passed :
    (c : In_ok-each) (d e : List Bool) →
    run_meant (Ok c.in_ok-each.field-0) ≡ try (each 20 (last_step (case_of c.args.case.now.file.now)) (unused_step (state_of c.args.left.now d e)))
unfolding unused_step state_of last_step case_of
unused_passed c d e =
    let test = unused_step (state_of c.args.left.now d e) in
    c.in_ok-each.ensures test (λ k b below post. search rules) ∙ ap (λ n. try (each 20 n test)) (omega (arith, c.count_of-last.ensures.0))

-- Check 21, by the labels that the last step leaves open.
open_labels_are :
    (c : In_ok-each) (d e : List Bool) →
    try (each 21 c.count_of-labels.result (labels_of c.opens_at-open_labels.result.bits))
    ≡ try (each 21 (case_of c.args.case.now.file.now).labels (open_label (case_of c.args.case.now.file.now) (state_of c.args.left.now d e)))
unfolding open_label last_step case_of state_of
open_labels_are c d e =
    ap (λ t. try (each 21 c.count_of-labels.result t)) (c.opens_at-open_labels.ensures ∙ ap (λ n. opens_of c.args.left.now (n - 1)) c.count_of-last.ensures.0)
    ∙ ap (λ n. try (each 21 n (opens_of c.args.left.now (count c.args.case.now.file.now step_part - 1)))) c.count_of-labels.ensures.0

pub opens_at-open_labels-requires : goal.opens_at-open_labels-requires
opens_at-open_labels-requires c = omega (arith, few_steps c, c.requires.0, c.count_of-last.ensures.0)

pub each-requires-clause-fits : goal.each-requires-clause-fits
each-requires-clause-fits c = omega (arith, few_steps (goal.at.each-requires-clause-fits c).After-count_of-labels)

pub each-requires-clause-callable : goal.each-requires-clause-callable
each-requires-clause-callable c = λ k below. let few = few_steps (goal.at.each-requires-clause-callable c).After-count_of-labels in search rules

pub returns-in_err-each : goal.returns-in_err-each
unfolding closing_checks unused_step state_of last_step case_of
returns-in_err-each c d e =
    let is : c.from_residual.result ≡ Err c.in_err-each.field-0.0 = search rules in
    let test = unused_step (state_of c.args.left.now d e) in
    rw is (checks_stop _ _ _ (c.in_err-each.ensures test (λ k b below post. search rules) ∙ ap (λ n. try (each 20 n test)) (omega (arith, c.count_of-last.ensures.0))))

pub each-requires-2-clause-fits : goal.each-requires-2-clause-fits
each-requires-2-clause-fits c = omega (arith, few_labels (goal.at.each-requires-2-clause-fits c).After-count_of-labels)

pub each-requires-2-clause-callable : goal.each-requires-2-clause-callable
each-requires-2-clause-callable c = λ k below. let few = few_labels (goal.at.each-requires-2-clause-callable c).After-count_of-labels in search rules

pub returns-in_err-each-2 : goal.returns-in_err-each-2
unfolding closing_checks
returns-in_err-each-2 c d e =
    let is : c.from_residual-in_err-each-2.result ≡ Err c.in_err-each-2.field-0.0 = search rules in
    let k = (goal.at.returns-in_err-each-2 c).In_ok-each in
    rw is (checks_stop _ _ _ (c.in_err-each-2.ensures (labels_of c.opens_at-open_labels.result.bits) (λ l b below post. search rules) ∙ open_labels_are k d e) ∙ checks_go_on _ _ _ (unused_passed k d e))

pub overflow_cast-last : goal.overflow_cast-last
overflow_cast-last c = omega (arith, few_steps (goal.at.overflow_cast-last c).After-count_of-labels)

pub returns : goal.returns
unfolding closing_checks last_step case_of
returns c d e =
    let k = (goal.at.returns c).In_ok-each in
    let ended = c.single.ensures ∙ (λ i. try (single 22 (c.count_of-last.ensures.0 i - 1) (c.wrong_end.ensures i))) ∙ last_check _ in
    let opened = c.in_ok-each-2.ensures (labels_of c.opens_at-open_labels.result.bits) (λ l b below post. search rules) ∙ open_labels_are k d e in
    ended ∙ checks_go_on _ _ _ opened ∙ checks_go_on _ _ _ (unused_passed k d e)
