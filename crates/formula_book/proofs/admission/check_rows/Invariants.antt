-- The column has the sizes of the rows passed.
use Rattle.formula_book.specs.Sizes.{SizesTold}
use Rattle.formula_book.proofs.admission.check_rows.Given as goal

abbrev pub invariant-loop-k : goal.invariant-loop-k
invariant-loop-k l = SizesTold l.book l.initial.sizes l.sizes l.k
