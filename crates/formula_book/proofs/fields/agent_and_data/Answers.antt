-- `agent_and_data` meets its contract. Assumes nothing.
use Rattle.std.proofs.Common.{rules}
use Rattle.definition.specs.14-Book.{agent_and_data, in_place}
use Rattle.formula_rows.specs.Meanings.{row_meant, sort_meant}
use Rattle.formula_book.proofs.fields.agent_and_data.Goals as goal

pub returns-then-has_sort-2 : goal.returns-then-has_sort-2
unfolding agent_and_data in_place row_meant sort_meant
returns-then-has_sort-2 c = search rules

pub returns-else-has_sort-2 : goal.returns-else-has_sort-2
unfolding agent_and_data in_place row_meant sort_meant
returns-else-has_sort-2 c = search rules
