-- `premise_rests` meets its contract. Assumes nothing.
use native.Mathlib.Omega.{arith}
use Rattle.case_file.proofs.LentCaseLaws.{premises_few}
use Rattle.steps.proofs.refining.premise_rests.Goals as goal

pub overflow_add-from : goal.overflow_add-from
overflow_add-from c = omega (arith, c.requires.1, premises_few _ c.requires.0)
