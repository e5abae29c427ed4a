-- What lies ahead of the slot. A link leads to slots behind its own, so the slots ahead are the measure.
use Prim.Native.Nat.{◌-◌}
use Rattle.formula_book.proofs.RowTreeLaws.{Ahead}
use Rattle.formula_book.proofs.repeats.find_spot.Given as goal

abbrev pub invariant-loop-slot : goal.invariant-loop-slot
invariant-loop-slot l = Ahead l.book l.links l.k l.slot l.rest

abbrev pub decreases-loop-slot : goal.decreases-loop-slot
decreases-loop-slot l = 3072 - l.slot
