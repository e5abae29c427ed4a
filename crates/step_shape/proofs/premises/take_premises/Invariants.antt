-- The premises from `j` on decide as all of them do.
use Rattle.step_shape.proofs.PremiseTurns.{Turn}
use Rattle.step_shape.proofs.premises.take_premises.Given as goal

abbrev pub invariant-loop-j : goal.invariant-loop-j
invariant-loop-j l = Turn l.file l.k l.from l.len l.initial.left l.left l.j
