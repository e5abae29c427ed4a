-- What the loop keeps: the rows below `k` are good, the table has their entries and is else as it was, and the next span is due at `due`.
use Prim.Native.Nat.{ℕ}
use mathlib.Core.Path.{◌≡◌}
use mathlib.Core.List.{List}
use Rattle.words.proofs.Searches.{Passed}
use Rattle.definition.specs.13-Formulas.{Formula}
use Rattle.definition.specs.14-Book.{book}
use Rattle.definition.specs.15-Records.{Log, rows_in, row_from, row_count, span_due, bad_log_row}
use Rattle.case_file.specs.Seen.{log_with, SeenUpTo}
use Rattle.case_file.proofs.log_checks.check_log.Given as goal

pub record Turn (g : Log) (agent : ℕ) (l : List Formula) (old new : List ℕ) (due k : ℕ) : Type 0 where
  pub next : due ≡ span_due (row_from g) (row_count g) k
  pub good : Passed (bad_log_row g l) (rows_in g) k
  pub table : SeenUpTo g agent k old new

abbrev pub invariant-loop-k : goal.invariant-loop-k
invariant-loop-k l = Turn (log_with l.log.rows.now l.log.observers.now) l.agent (book l.book) l.initial.views l.views l.due l.k
