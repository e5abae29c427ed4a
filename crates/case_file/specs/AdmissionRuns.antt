-- The admission cut between its groups of checks.
use Rattle.std.specs.Prelude.{ℕ, List}
use Rattle.definition.specs.04-Checks.{Checked, ◌>>◌, in_order}
use Rattle.definition.specs.11-Layout.{formula_part, part, layout_checks}
use Rattle.definition.specs.14-Book.{book_checks}
use Rattle.definition.specs.15-Records.{log_of, formulas, log_checks}

-- Checks 1 to 4.
unfoldable pub before_log : List ℕ → Checked (Unit {0})
before_log s = do
  in_order (layout_checks s)
  in_order (book_checks (part s formula_part))

-- Checks 3 to 5.
unfoldable pub from_book : List ℕ → Checked (Unit {0})
from_book s = do
  in_order (book_checks (part s formula_part))
  in_order (log_checks (log_of s) (formulas s))
