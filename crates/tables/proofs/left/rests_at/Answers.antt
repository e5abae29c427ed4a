-- `rests_at` meets its contract: digit 33 tells that evidence is cited. Assumes nothing.
use Rattle.tables.specs.Sets.{left_in, rests_of}
use Rattle.tables.proofs.left.rests_at.Goals as goal

pub returns : goal.returns
unfolding left_in
returns c = let a = c.args in λ i. record { opens = c.opens_at.ensures i; cites = (rests_of a.left.now a.k).cites }
