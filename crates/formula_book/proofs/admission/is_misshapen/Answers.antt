-- `is_misshapen` meets its contract. Assumes nothing.
use Rattle.std.proofs.Common.{rules}
use Rattle.definition.specs.11-Layout.{most_records}
use Rattle.definition.specs.14-Book.{book_rows, is_misshapen}
use Rattle.formula_book.proofs.admission.is_misshapen.Goals as goal

pub returns-then-book-ne0 : goal.returns-then-book-ne0
unfolding is_misshapen book_rows most_records
returns-then-book-ne0 c = search rules

pub returns-else-book-ne0 : goal.returns-else-book-ne0
unfolding is_misshapen book_rows most_records
returns-else-book-ne0 c = search rules
