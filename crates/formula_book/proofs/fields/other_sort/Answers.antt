-- `other_sort` meets its contract. Assumes nothing.
use Rattle.std.proofs.Common.{rules}
use Rattle.definition.specs.14-Book.{sort_of_code}
use Rattle.definition.specs.12-Terms.{other}
use Rattle.formula_rows.specs.Meanings.{sort_meant}
use Rattle.formula_book.proofs.fields.other_sort.Goals as goal

pub returns-then-code-eq0 : goal.returns-then-code-eq0
unfolding other sort_of_code sort_meant
returns-then-code-eq0 c = search rules

pub returns-else-code-eq0 : goal.returns-else-code-eq0
unfolding other sort_of_code sort_meant
returns-else-code-eq0 c = search rules
