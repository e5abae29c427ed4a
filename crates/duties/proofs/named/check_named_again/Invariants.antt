-- What the loop keeps: no obligation passed is at fault, and the table has the rows that they name.
use Rattle.std.proofs.Common.{ℕ, ◌<◌, ◌≡◌, false}
use Rattle.definition.specs.17-Case.{case_of}
use Rattle.definition.specs.23-Duties.{names_again}
use Rattle.duties.specs.NamedRows.{NamedBefore}
use Rattle.duties.proofs.named.check_named_again.Given as goal

abbrev pub invariant-loop-o : goal.invariant-loop-o
invariant-loop-o l = record { passed : (k : ℕ) → k < l.o → names_again (case_of l.case.file.now) k ≡ false; named : NamedBefore (case_of l.case.file.now) l.o l.named }
