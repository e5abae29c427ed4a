-- `bad_premise_span` meets its contract: what is due, and the test that log rows have too. Assumes nothing.
use native.Mathlib.Omega.{arith}
use Rattle.definition.specs.15-Records.{bad_span}
use Rattle.case_file.proofs.LentCaseLaws.{steps_few}
use Rattle.step_shape.proofs.shape.bad_premise_span.Goals as goal

pub overflow_add-last : goal.overflow_add-last
overflow_add-last c = omega (arith, c.requires.parted.1, steps_few _ c.requires.parted.0)

pub returns : goal.returns
unfolding bad_span
returns c = rw
    (c.premises_due-due.ensures, c.requires.from_value.0, c.requires.from_value.1, c.count_of.ensures.0, c.count_of-2.ensures.0)
    at c.bad_span.ensures
