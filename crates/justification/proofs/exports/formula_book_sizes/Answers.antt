-- `formula_book_sizes` meets its contract: it is the book's `admit_into` in numbers, over the same column. Assumes nothing.
use mathlib.Core.Path.{ap, ◌∙◌}
use Rattle.definition.specs.32-Numbers.{run_numbers}
use Rattle.justification.proofs.exports.formula_book_sizes.Goals as goal

pub returns : goal.returns
returns c = let column = c.admit_into.ensures in
    (c.from.ensures ∙ ap run_numbers column.0, column.1)
