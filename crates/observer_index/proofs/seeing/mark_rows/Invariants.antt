-- What the loop keeps.
use Rattle.observer_index.specs.OwnList.{Marked}
use Rattle.observer_index.proofs.seeing.mark_rows.Given as goal

abbrev pub invariant-loop-entry : goal.invariant-loop-entry
invariant-loop-entry l = Marked l.rows l.index l.from l.entry-index l.initial.views l.views
