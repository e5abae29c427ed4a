-- `formula_book_admit` meets its contract: it is the book's `admit` in numbers. Assumes nothing.
use mathlib.Core.Path.{ap, ◌∙◌}
use Rattle.definition.specs.32-Numbers.{run_numbers}
use Rattle.justification.proofs.exports.formula_book_admit.Goals as goal

pub returns : goal.returns
returns c = c.from.ensures ∙ ap run_numbers c.admit.ensures
