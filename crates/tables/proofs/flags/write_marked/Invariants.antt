-- What the loop keeps: the numbers of the first `k` stand in the room, and the rest is as it was.
use mathlib.Core.Path.{◌≡◌}
use mathlib.Core.List.{◌++◌}
use lib.ListN.{length, drop}
use Rattle.definition.specs.02-Ranges.{members}
use Rattle.tables.specs.Sets.{marks}
use Rattle.tables.proofs.flags.write_marked.Given as goal

abbrev pub invariant-loop-k : goal.invariant-loop-k
invariant-loop-k l = let done = members (marks l.flags) l.k 0 in
    (l.at ≡ length done) × (l.room ≡ done ++ drop (length done) l.initial.room)
