-- What the loop keeps: `above` is of the premises from `j` on.
use Prim.Native.Nat.{◌+◌, ◌-◌, ◌≤◌}
use Rattle.steps.specs.OpenLabels.{IsAbove}
use Rattle.steps.proofs.uses.rests_above.Given as goal

abbrev pub invariant-loop-j : goal.invariant-loop-j
invariant-loop-j l = (l.from ≤ l.j) × IsAbove l.file l.j (l.from + l.len - l.j) l.left l.above
