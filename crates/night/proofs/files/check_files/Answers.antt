-- `check_files` meets its contract: the first k files are told. Assumes nothing.
use Rattle.std.proofs.Common.{arith, ◌<◌}
use Rattle.definition.proofs.NightPairs.{files_few, ends_inside}
use Rattle.definition.specs.36-Night.{whole_pairs}
use Rattle.definition.specs.71-Nights.{lent_for}
use Rattle.night.proofs.FileTurns.{told_start, still_inside, told_more, told_all}
use Rattle.night.proofs.files.check_files.Goals as goal
use Rattle.night.proofs.files.check_files.Goals.{In-loop-k}

is_file : (c : In-loop-k) → c.loop-k.k < whole_pairs c.args.list.now
is_file c = omega (arith, c.whole_pairs-n.ensures)

few : (c : In-loop-k) → c.loop-k.k < 64
few c = omega (arith, is_file c, files_few (lent_for c.args.files.now c.args.list.now c.args.verdicts.now c.args.room.now) c.requires.0)

pub loop-k-init : goal.loop-k-init
loop-k-init c = told_start _

pub check_file-verdict-requires : goal.check_file-verdict-requires
check_file-verdict-requires c =
    let file = is_file (goal.at.check_file-verdict-requires c).In-loop-k in
    (file, ends_inside (lent_for c.args.files.now c.args.list.now c.args.verdicts.now c.args.room.now) c.requires.0 _ file)

pub offset_bounds-verdicts-k : goal.offset_bounds-verdicts-k
offset_bounds-verdicts-k c = omega (arith, few (goal.at.offset_bounds-verdicts-k c).In-loop-k)

pub bounds-verdicts-k : goal.bounds-verdicts-k
bounds-verdicts-k c = omega (arith, few (goal.at.bounds-verdicts-k c).In-loop-k, c.loop-k.invariant.verdicts_long, c.requires.1)

pub overflow_add-d : goal.overflow_add-d
overflow_add-d c = let l = c.loop-k in
    omega (arith, still_inside _ l.verdicts l.room l.d l.k l.invariant c.check_file-verdict.result _ c.check_file-verdict.ensures c.entries_of-d.result c.entries_of-d.ensures, l.invariant.room_long)

pub loop-k-preserved : goal.loop-k-preserved
loop-k-preserved c = let l = c.loop-k in
    let k = (goal.at.loop-k-preserved c).In-loop-k in
    told_more _ l.verdicts l.room l.d l.k l.invariant c.check_file-verdict.result _ c.check_file-verdict.ensures c.entries_of-d.result c.entries_of-d.ensures
    (is_file k) (omega (arith, few k, c.requires.1)) _ c.entry_of.ensures

pub returns : goal.returns
returns c = let l = c.loop-k in told_all _ l.verdicts l.room l.d l.k l.invariant c.requires.0 (omega (arith, c.whole_pairs-n.ensures))
