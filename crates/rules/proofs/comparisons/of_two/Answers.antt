-- `of_two` meets its contract: a kind's byte is its number. Assumes nothing.
use mathlib.Core.Path.{ap}
use Rattle.definition.specs.01-Words.{absent}
use Rattle.definition.specs.14-Book.{Row}
use Rattle.formula_rows.specs.Meanings.{row_meant}
use Rattle.rules.proofs.NamedNumbers.{kind_byte}
use Rattle.rules.proofs.comparisons.of_two.Goals as goal

pub returns : goal.returns
unfolding row_meant
returns c = ap {B = Row} (λ k. record { kind = k; code = 0; x = c.args.x; y = c.args.y; z = absent }) (kind_byte c.args.kind)
