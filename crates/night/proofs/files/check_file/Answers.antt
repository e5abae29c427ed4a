-- `check_file` meets its contract: the check of the file's bytes. Assumes nothing.
use native.Mathlib.Omega.{arith}
use Rattle.definition.specs.36-Night.{pair_end}
use Rattle.night.proofs.FileTurns.{checked_alone}
use Rattle.night.proofs.files.check_file.Goals as goal

pub slice_bounds-check-count : goal.slice_bounds-check-count
unfolding pair_end
slice_bounds-check-count c = omega (arith, c.offset_of-from.ensures, c.end_of-end.ensures)

pub slice_bounds-check-start : goal.slice_bounds-check-start
unfolding pair_end
slice_bounds-check-start c = omega (arith, c.offset_of-from.ensures, c.end_of-end.ensures)

pub returns : goal.returns
returns c = checked_alone _ _ _ c.offset_of-from.ensures c.end_of-end.ensures c.check.ensures
