-- The test has answered that there is no fault at each place passed.
use Rattle.std.proofs.Common.{ℕ, ◌<◌, false}
use Rattle.words.proofs.runs.each.Given as goal

abbrev pub invariant-loop-k : goal.invariant-loop-k
invariant-loop-k g l = (j : ℕ) → j < l.k → goal.F-post g l.fault j false
