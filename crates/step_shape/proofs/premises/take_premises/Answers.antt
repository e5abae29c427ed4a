-- `take_premises` meets its contract: the premises from `j` on decide as all of them do. Assumes nothing.
use mathlib.Core.Path.{sym, ◌∙◌}
use mathlib.Core.Bool.{or-true}
use native.Mathlib.Omega.{arith}
use borrow.Author.Tests.{le-ltb}
use Rattle.case_file.proofs.LentCaseLaws.{premises_few}
use Rattle.step_shape.proofs.PremiseTurns.{turn_start, turn_refused, turn_next, turn_end}
use Rattle.step_shape.proofs.premises.take_premises.Goals as goal
use Rattle.step_shape.proofs.premises.take_premises.Goals.{then-k-p-via-then-k-p, then-k-p-via-else-k-p+then-is_used}

pub overflow_add-j-end : goal.overflow_add-j-end
overflow_add-j-end c = omega (arith, c.requires.parted.1, premises_few _ c.requires.parted.0)

pub loop-j-init : goal.loop-j-init
loop-j-init c = turn_start _ _ _ _ _ c.requires.k_bound.1

pub returns-then-k-p : goal.returns-then-k-p
returns-then-k-p c = let l = c.loop-j in
    elim c.then-k-p.branch [
      | then-k-p-via-then-k-p w ↦ turn_refused _ _ _ _ _ l.left l.j l.invariant _ c.premise_step-p.ensures c.loop-j-test.true (rw (le-ltb _ _ w.if-k-p.true))
      | then-k-p-via-else-k-p+then-is_used w ↦ turn_refused _ _ _ _ _ l.left l.j l.invariant _ c.premise_step-p.ensures c.loop-j-test.true (rw (sym w.is_used.ensures ∙ w.if-is_used.true, or-true))
    ]

pub loop-j-preserved : goal.loop-j-preserved
loop-j-preserved c = let l = c.loop-j in
    turn_next _ _ _ _ _ l.left l.j l.invariant _ c.premise_step-p.ensures c.loop-j-test.true _ (omega (arith, c.if-k-p.false)) (sym c.is_used.ensures ∙ c.if-is_used.false) c.mark_used.ensures

pub returns : goal.returns
returns c = let l = c.loop-j in turn_end _ _ _ _ _ l.left l.j l.invariant (omega (arith, c.loop-j-test.false))
