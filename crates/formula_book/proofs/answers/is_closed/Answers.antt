-- `is_closed` meets its contract. Assumes nothing.
use mathlib.Core.Path.{ap}
use mathlib.Core.Bool.{not}
use Rattle.definition.specs.13-Formulas.{closed}
use Rattle.formula_rows.specs.Meanings.{sought_meant}
use Rattle.formula_walks.proofs.WalkLaws.{free_present}
use Rattle.formula_book.proofs.answers.is_closed.Goals as goal

pub formula_has-requires : goal.formula_has-requires
unfolding closed sought_meant
formula_has-requires c = record { good_row = c.requires; present = free_present }

pub returns : goal.returns
unfolding closed sought_meant
returns c = ap not c.formula_has.ensures
