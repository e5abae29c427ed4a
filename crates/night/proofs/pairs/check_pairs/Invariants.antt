-- What the loop keeps.
use Rattle.std.proofs.Common.{◌≡◌, ℕ, ◌<◌, false}
use Rattle.definition.specs.36-Night.{last_end, bad_pair}
use Rattle.night.proofs.pairs.check_pairs.Given as goal

abbrev pub invariant-loop-k : goal.invariant-loop-k
invariant-loop-k l = record { none : (j : ℕ) → j < l.k → bad_pair l.files l.list j ≡ false; last : l.last ≡ last_end l.list l.k }
