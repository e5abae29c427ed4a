-- What is lent of a book that is admitted.
use Rattle.std.specs.Prelude.{ℕ, ◌≡◌, List}
use Rattle.definition.specs.04-Checks.{accepts}
use Rattle.definition.specs.14-Book.{book_admission}

-- The book is whole, and checks 3 and 4 let it pass. The column beside it is told of by `SizeHeld` (Sizes), which is asked where a size is read.
pub record AdmittedBook (s : List ℕ) : Type 0 where
  pub passes : book_admission s ≡ accepts tt
