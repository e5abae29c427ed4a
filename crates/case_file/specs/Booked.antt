-- What the functions that read a file's records are lent.
use Rattle.std.specs.Prelude.{ℕ, ◌≡◌, List}
use Rattle.definition.specs.11-Layout.{formula_part, part}
use Rattle.definition.specs.18-Admission.{Parted}
use Rattle.formula_book.specs.AdmittedBooks.{AdmittedBook}

-- The file s has its parts where the header says, and b are the bytes of its formulas, an admitted book.
pub record Booked (s b : List ℕ) : Type 0 where
  pub parted : Parted s
  pub is : b ≡ part s formula_part
  pub book : AdmittedBook b
