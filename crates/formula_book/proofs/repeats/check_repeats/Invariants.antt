-- What the loop keeps: no row passed repeats a lower one, and each stands in the tree of its bucket.
use Rattle.std.proofs.Common.{ℕ, ◌<◌, ◌≡◌, false}
use Rattle.definition.specs.14-Book.{repeats_lower}
use Rattle.formula_book.specs.RowTrees.{Linked}
use Rattle.formula_book.proofs.repeats.check_repeats.Given as goal

abbrev pub invariant-loop-k : goal.invariant-loop-k
invariant-loop-k l = record { passed : (j : ℕ) → j < l.k → repeats_lower l.book j ≡ false; linked : Linked l.book l.links l.k }
