-- `check_repeats` meets its contract: the rows passed stand in the trees of their buckets, and none repeats a lower one. Assumes nothing.
use Rattle.std.proofs.Common.{below_more}
use mathlib.Core.Path.{refl, sym}
use native.Mathlib.Omega.{arith}
use Rattle.definition.proofs.CheckLaws.{try_fails, try_holds}
use Rattle.definition.specs.14-Book.{book_rows}
use Rattle.words.specs.Meanings.{run_meant}
use Rattle.formula_book.proofs.RowTreeLaws.{linked_none, linked_more}
use Rattle.formula_book.proofs.repeats.check_repeats.Goals as goal

pub loop-k-init : goal.loop-k-init
loop-k-init c = record { passed = λ j lt. absurd (omega arith); linked = linked_none _ }

pub find_spot-requires : goal.find_spot-requires
unfolding book_rows
find_spot-requires c = (omega arith, omega arith, c.loop-k.invariant.linked)

pub overflow_cast-result : goal.overflow_cast-result
unfolding book_rows
overflow_cast-result c = omega arith

pub returns-in_default : goal.returns-in_default
unfolding run_meant book_rows
returns-in_default c = sym (try_fails _ _ _ (refl, (c.loop-k-test.true, c.in_default.ensures, c.loop-k.invariant.passed)))

pub overflow_cast-links : goal.overflow_cast-links
unfolding book_rows
overflow_cast-links c = omega arith

pub overflow_add-links : goal.overflow_add-links
unfolding book_rows
overflow_add-links c = omega arith

pub bounds-links-slot : goal.bounds-links-slot
unfolding book_rows
bounds-links-slot c = omega (arith, c.in-Some.ensures.below)

pub loop-k-preserved : goal.loop-k-preserved
unfolding book_rows
loop-k-preserved c =
    record {
      passed = below_more _ _ c.loop-k.invariant.passed c.in-Some.ensures.new;
      linked = linked_more _ _ c.loop-k.k _ c.loop-k.invariant.linked (omega arith) c.in-Some.ensures;
    }

pub returns : goal.returns
unfolding run_meant book_rows
returns c = sym (try_holds _ (λ j lt. c.loop-k.invariant.passed j (omega arith)))
