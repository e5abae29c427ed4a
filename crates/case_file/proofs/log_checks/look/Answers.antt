-- `look` meets its contract. The loop's invariant: the entries before `j` are no fault, and `seen` says whether the agent is among them. Assumes nothing.
use Rattle.std.proofs.Common.{◌≡◌, ◌||◌, eqb, sym, ◌∙◌, arith}
use mathlib.Core.Bool.{or-true, or-false}
use borrow.Author.Tests.{eq-eqb, ne_eqb}
use Rattle.formula_rows.specs.Meanings.{sort_meant}
use Rattle.case_file.proofs.ObserverLists.{looked_none, looked_low, looked_other, looked_more, looked_end}
use Rattle.definition.specs.11-Layout.{record_bytes, records_in}
use Rattle.case_file.proofs.log_checks.look.Goals as goal
use Rattle.case_file.proofs.log_checks.look.Goals.{then-entry-agent, else-entry-agent, then-entry-least-via-then-entry-least, then-entry-least-via-else-entry-least+then-not-is_object}

pub overflow_add-j-end : goal.overflow_add-j-end
unfolding records_in record_bytes
overflow_add-j-end c = omega (arith, c.requires)

pub loop-j-init : goal.loop-j-init
loop-j-init c = looked_none _ _ _ _

pub returns-then-entry-least : goal.returns-then-entry-least
unfolding sort_meant
returns-then-entry-least c =
    let l = c.loop-j in
    let is = c.observer-entry.ensures in
    elim c.then-entry-least.branch [
      | then-entry-least-via-then-entry-least w ↦ looked_low _ _ _ _ l.least l.seen l.j l.invariant c.loop-j-test.true (omega (arith, is, w.if-entry-least.true))
      | then-entry-least-via-else-entry-least+then-not-is_object w ↦
          let e = sym w.is_object.ensures ∙ w.if-not-is_object.true in
          looked_other _ _ _ _ l.least l.seen l.j l.invariant c.loop-j-test.true (rw (w.from.ensures, is) at e)
    ]

pub loop-j-preserved : goal.loop-j-preserved
unfolding sort_meant
loop-j-preserved c =
    let l = c.loop-j in
    let is = c.observer-entry.ensures in
    let e = sym c.is_object.ensures ∙ c.if-not-is_object.false in
    let now : c.if-entry-agent.seen ≡ l.seen || eqb c.observer-entry.result c.args.agent =
    elim c.if-entry-agent.branch [
      | then-entry-agent w ↦ w.seen-is ∙ sym (rw (eq-eqb c.observer-entry.result c.args.agent w.if-entry-agent.true, or-true))
      | else-entry-agent w ↦ w.seen-is ∙ sym (rw (ne_eqb c.observer-entry.result c.args.agent w.if-entry-agent.false, or-false))
    ] in
    rw is
    (looked_more _ c.args.agent _ _ l.least l.seen l.j l.invariant c.loop-j-test.true c.if-entry-agent.seen
    (omega (arith, is, c.if-entry-least.false)) (rw (c.from.ensures, is) at e) (rw is at now))

pub returns : goal.returns
returns c =
    let l = c.loop-j in
    looked_end _ _ _ _ l.least l.seen l.j l.invariant c.loop-j-test.false
