-- `is_row` meets its contract: equal rows are those of equal formulas. Assumes nothing.
use mathlib.Core.Path.{◌∙◌}
use Rattle.formula_rows.proofs.RowEquality.{rows_equal}
use Rattle.rules.proofs.ComparedRows.{row_compared}
use Rattle.rules.proofs.comparisons.is_row.Goals as goal

pub returns : goal.returns
returns c g stands = row_compared c.row_of.result c.args.row c.requires stands c.row_of.ensures (c.eq.ensures ∙ rows_equal _ _)
