-- The set has the each-use labels below `l`.
use mathlib.Core.Path.{◌≡◌}
use Rattle.tables.specs.Sets.{labels_of}
use Rattle.steps.specs.OpenLabels.{each_use_below}
use Rattle.steps.proofs.uses.each_use_labels.Given as goal

abbrev pub invariant-loop-l : goal.invariant-loop-l
invariant-loop-l l = labels_of l.set.bits ≡ each_use_below l.file l.l
