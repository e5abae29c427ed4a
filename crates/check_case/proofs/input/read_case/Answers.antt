-- A turn adds a piece, or it ends the reading.
use Rattle.std.proofs.Common.{arith, []}
use Rattle.check_case.proofs.Readings.{none_yet, and_more, and_ended, more_done}
use Rattle.check_case.proofs.input.read_case.Goals as goal

pub loop-count-init : goal.loop-count-init
loop-count-init c = ([], none_yet _ (omega arith))

pub loop-count-smaller : goal.loop-count-smaller
loop-count-smaller c =
    let within = c.loop-count.invariant.1.within in
    let more = more_done (omega (arith, within)) c.in-More.ensures in
    omega (arith, within, more)

pub loop-count-preserved : goal.loop-count-preserved
loop-count-preserved c = and_more c.loop-count.invariant.1 c.in-More.ensures

pub returns-in-Whole : goal.returns-in-Whole
returns-in-Whole c = and_ended c.loop-count.invariant.1 c.in-Whole.ensures tt

pub returns-in-Failed : goal.returns-in-Failed
returns-in-Failed c = and_ended c.loop-count.invariant.1 c.in-Failed.ensures tt
