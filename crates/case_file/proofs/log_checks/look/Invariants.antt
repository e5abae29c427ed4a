-- What the loop keeps.
use Rattle.case_file.proofs.ObserverLists.{Looked}
use Rattle.case_file.proofs.log_checks.look.Given as goal

abbrev pub invariant-loop-j : goal.invariant-loop-j
invariant-loop-j l = Looked l.observers l.agent l.from l.len l.least l.seen l.j
