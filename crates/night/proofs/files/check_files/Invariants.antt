-- What the loop keeps.
use Rattle.definition.specs.71-Nights.{lent_for}
use Rattle.night.proofs.FileTurns.{Told}
use Rattle.night.proofs.files.check_files.Given as goal

abbrev pub invariant-loop-k : goal.invariant-loop-k
invariant-loop-k l = Told (lent_for l.files l.list l.initial.verdicts l.initial.room) l.verdicts l.room l.d l.k
