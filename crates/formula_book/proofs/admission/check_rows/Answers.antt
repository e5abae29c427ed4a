-- `check_rows` meets its contract: the rows passed are good, and the column has their sizes; a row without a size is the first bad one. Assumes nothing.
use native.Mathlib.Omega.{arith}
use Rattle.definition.specs.14-Book.{book_rows}
use Rattle.words.specs.Meanings.{run_meant}
use Rattle.formula_book.proofs.SizeLaws.{told_more, rows_refused, rows_passed}
use Rattle.formula_book.proofs.admission.check_rows.Goals as goal

pub size_at-requires-clause-k_bound : goal.size_at-requires-clause-k_bound
unfolding book_rows
size_at-requires-clause-k_bound c = omega arith

pub returns-in_default : goal.returns-in_default
unfolding run_meant book_rows
returns-in_default c = rows_refused c.loop-k.invariant c.loop-k-test.true c.in_default.ensures.0

pub bounds-sizes-k : goal.bounds-sizes-k
unfolding book_rows
bounds-sizes-k c = omega (arith, c.loop-k.invariant.as_long)

pub loop-k-preserved : goal.loop-k-preserved
unfolding book_rows
loop-k-preserved c =
    told_more c.in-Some.size c.loop-k.invariant c.loop-k-test.true (omega arith) (omega (arith, c.loop-k.invariant.as_long)) c.in-Some.ensures.0

pub returns : goal.returns
unfolding run_meant book_rows
returns c = rows_passed c.loop-k.invariant (omega arith)
