-- What the loop keeps.
use Rattle.steps.specs.WorkingTables.{state_of}
use Rattle.checker.proofs.StepRun.{Turn}
use Rattle.checker.proofs.run.run_steps.Given as goal

abbrev pub invariant-loop-k : goal.invariant-loop-k
invariant-loop-k l = Turn l.case.file.now (state_of l.initial.tables.left l.initial.tables.cited l.initial.tables.discharged) l.n l.tables.left l.tables.cited l.tables.discharged l.k
