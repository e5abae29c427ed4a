-- `bad_span` meets its contract. Assumes nothing.
use Rattle.std.proofs.Common.{arith}
use Rattle.std.proofs.lemmas.Bool.Decides.{nat_tests}
use Rattle.definition.specs.15-Records.{span_fault}
use Rattle.case_parts.proofs.records.bad_span.Goals as goal

pub returns-then-entries-end : goal.returns-then-entries-end
unfolding span_fault
returns-then-entries-end c = grind (arith, nat_tests)

pub returns-then-last : goal.returns-then-last
unfolding span_fault
returns-then-last c = grind (arith, nat_tests)

pub returns-else-last : goal.returns-else-last
unfolding span_fault
returns-else-last c = grind (arith, nat_tests)
