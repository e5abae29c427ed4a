-- `each_use_labels` meets its contract. Assumes nothing.
use mathlib.Core.Path.{sym, ap, ◌∙◌}
use mathlib.Core.Bool.{true}
use native.Mathlib.Omega.{arith}
use borrow.Author.Tests.{eqb-true, eqb-false}
use Rattle.definition.specs.02-Ranges.{update}
use Rattle.steps.specs.OpenLabels.{each_use_below, each_use_labels}
use Rattle.case_file.proofs.LentCaseLaws.{labels_few}
use Rattle.steps.proofs.OpenLabelLaws.{none_below, one_below, other_below}
use Rattle.steps.proofs.uses.each_use_labels.Goals as goal
use Rattle.steps.proofs.uses.each_use_labels.Goals.{then-is, else-is}

pub loop-l-init : goal.loop-l-init
loop-l-init c = c.empty-set.ensures ∙ none_below _

pub overflow_cast-l : goal.overflow_cast-l
overflow_cast-l c = omega (arith, c.count_of-l-end.ensures.0, c.loop-l-test.true, labels_few _ c.requires)

pub add-set-requires : goal.add-set-requires
add-set-requires c = omega (arith, c.count_of-l-end.ensures.0, c.loop-l-test.true, labels_few _ c.requires)

pub loop-l-preserved : goal.loop-l-preserved
loop-l-preserved c =
    elim c.if-is.branch [
      | then-is w ↦ rw w.set-is
          (w.add-set.ensures ∙ ap (λ t. update t c.loop-l.l true) c.loop-l.invariant ∙ one_below _ _ (sym c.label_at.ensures.mark ∙ eqb-true _ 1 (sym c.is.ensures ∙ w.if-is.true)))
      | else-is w ↦ rw w.set-is (c.loop-l.invariant ∙ other_below _ _ (λ e. eqb-false _ 1 (sym c.is.ensures ∙ w.if-is.false) (c.label_at.ensures.mark ∙ e)))
    ]

pub returns : goal.returns
unfolding each_use_labels
returns c = c.loop-l.invariant ∙ ap (each_use_below _) (omega (arith, c.count_of-l-end.ensures.0, c.loop-l.auto.l-end, c.loop-l-test.false))
