-- The pieces so far have not ended the reading, and the buffer has their bytes. The measure is what is left of the buffer: each turn stores a byte or returns.
use Rattle.std.proofs.Common.{◌-◌, ℕ, List, length}
use Rattle.check_case.proofs.Readings.{SoFar}
use Rattle.check_case.proofs.input.read_case.Given as goal

abbrev pub invariant-loop-count : goal.invariant-loop-count
invariant-loop-count l = (pieces : List (List ℕ)) × SoFar pieces l.initial.buffer l.buffer l.done

abbrev pub decreases-loop-count : goal.decreases-loop-count
decreases-loop-count l = length l.initial.buffer - l.done
