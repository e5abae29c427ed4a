-- The lines of the entries before this one are written.
use Rattle.std.proofs.Common.{take}
use Rattle.check_case.specs.Written.{Written}
use Rattle.definition.specs.33-Text.{lines}
use Rattle.check_case.proofs.report.put_lines.Given as goal

abbrev pub invariant-loop-entry : goal.invariant-loop-entry
invariant-loop-entry l = Written l.fn.out l.at (lines l.word (take l.entry-index l.entries)) l.out l.end
