-- `discharged_before` meets its contract. Assumes nothing.
use Rattle.std.proofs.Common.{rules}
use Rattle.definition.specs.22-Steps.{is_an_obligation}
use Rattle.tables.specs.Sets.{marks}
use Rattle.step_shape.specs.Meanings.{names_meant}
use Rattle.case_file.proofs.LentCaseLaws.{obligations_few}
use Rattle.steps.proofs.uses.discharged_before.Goals as goal

pub obligation_at-requires : goal.obligation_at-requires
unfolding is_an_obligation names_meant
obligation_at-requires c = search rules

pub bounds-discharged-argument : goal.bounds-discharged-argument
unfolding is_an_obligation names_meant
bounds-discharged-argument c = let few = obligations_few _ c.requires.parted in search rules

pub returns-then-is : goal.returns-then-is
unfolding is_an_obligation names_meant marks
returns-then-is c = search rules

pub returns-else-is : goal.returns-else-is
unfolding is_an_obligation names_meant marks
returns-else-is c = search rules
