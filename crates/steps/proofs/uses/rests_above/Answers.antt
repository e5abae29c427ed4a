-- `rests_above` meets its contract. Assumes nothing.
use Prim.Native.Nat.{◌+◌, ◌-◌}
use mathlib.Core.Path.{◌≡◌}
use native.Mathlib.Omega.{arith}
use Rattle.case_file.proofs.LentCaseLaws.{labels_few, premises_few}
use Rattle.steps.proofs.OpenLabelLaws.{above_nothing, above_more}
use Rattle.steps.proofs.uses.rests_above.Goals as goal

pub overflow_step-j : goal.overflow_step-j
overflow_step-j c = omega (arith, c.requires.parted.1, premises_few _ c.requires.parted.0)

pub loop-j-init : goal.loop-j-init
loop-j-init c = (omega arith, above_nothing c.args.file.now c.args.left.now (c.args.from + c.args.len) c.nothing-above.result c.nothing-above.ensures.0 c.nothing-above.ensures.1)

pub loop-j-preserved : goal.loop-j-preserved
loop-j-preserved c = let l = c.loop-j in
    let up : l.j - 1 + 1 ≡ l.j = omega (arith, c.loop-j-test.true) in (
      omega (arith, c.loop-j-test.true),
      above_more c.args.file.now c.args.left.now (c.args.from + c.args.len) (l.j - 1) _ _ _ l.above _ (labels_few _ c.requires.parted.0)
          (omega (arith, l.auto.j, c.loop-j-test.true)) c.premise_step-p.ensures c.requires.bits_value c.rests_at.ensures (rw up l.invariant.1) c.with-above.ensures,
    )
