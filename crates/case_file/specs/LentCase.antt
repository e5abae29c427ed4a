-- What the functions that judge steps are lent: an admitted file, its formulas, and the table of what the agent sees.
use Rattle.std.specs.Prelude.{ℕ, ◌<◌, ◌≡◌, List, length, get_or}
use Rattle.definition.specs.04-Checks.{accepts}
use Rattle.definition.specs.11-Layout.{agent_of}
use Rattle.definition.specs.14-Book.{book_rows}
use Rattle.definition.specs.15-Records.{log_of, rows_in, formulas}
use Rattle.definition.specs.16-Views.{row_view}
use Rattle.definition.specs.18-Admission.{admission}
use Rattle.formula_book.specs.AdmittedBooks.{AdmittedBook}
use Rattle.case_file.specs.Booked.{Booked}
use Rattle.case_file.specs.Seen.{code_view}

-- s is an admitted file, b the bytes of its formulas.
pub record Lent (s b : List ℕ) : Type 0 where
  pub admitted : admission s ≡ accepts tt
  pub booked : Booked s b

-- Such a file, with v the table of what the agent sees of each row.
pub record CaseLent (s b v : List ℕ) : Type 0 where
  pub lent : Lent s b
  pub long : length v ≡ 1024
  pub views : (k : ℕ) → k < rows_in (log_of s) → code_view (formulas s) (get_or v k 0) ≡ row_view (log_of s) (agent_of s) (formulas s) k

-- k is the number of a formula of the admitted book b.
pub record Numbered (b : List ℕ) (k : ℕ) : Type 0 where
  pub book : AdmittedBook b
  pub below : k < book_rows b
