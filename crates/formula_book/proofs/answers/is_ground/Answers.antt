-- `is_ground` meets its contract. Assumes nothing.
use Rattle.std.proofs.Common.{rules}
use Rattle.definition.specs.13-Formulas.{is_ground}
use Rattle.formula_rows.specs.Meanings.{sought_meant}
use Rattle.formula_walks.proofs.WalkLaws.{parameter_present}
use Rattle.formula_book.proofs.answers.is_ground.Goals as goal

pub formula_has-requires-clause-present : goal.formula_has-requires-clause-present
unfolding sought_meant
formula_has-requires-clause-present c = parameter_present

pub returns-then-is_closed : goal.returns-then-is_closed
unfolding is_ground sought_meant
returns-then-is_closed c = search rules

pub returns-else-is_closed : goal.returns-else-is_closed
unfolding is_ground sought_meant
returns-else-is_closed c = search rules
