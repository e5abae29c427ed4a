-- A line for one entry more, for which there is room: each line before it has eleven bytes at most.
use Rattle.std.proofs.Common.{arith, subst, ◌+◌, ◌*◌, ◌≤◌, List, ℕ, length, take}
use lib.Seq.{length-take-le}
use Rattle.check_case.specs.Written.{Written}
use Rattle.definition.specs.33-Text.{lines}
use Rattle.check_case.proofs.WrittenText.{nothing, and_then, room_left}
use Rattle.check_case.proofs.Lines.{lines_more}
use Rattle.check_case.proofs.Lengths.{lines_most}
use Rattle.check_case.proofs.report.put_lines.Goals as goal

pub loop-entry-init : goal.loop-entry-init
unfolding lines
loop-entry-init c = nothing _ _

pub put_line-end-requires : goal.put_line-end-requires
put_line-end-requires c =
    let a = c.args in
    let l = c.loop-entry in
    let most : length (lines a.word.now (take l.entry-index a.entries.now)) ≤ 11 * l.entry-index =
    omega (arith, lines_most a.word.now (take l.entry-index a.entries.now) (omega arith), length-take-le l.entry-index a.entries.now (omega arith)) in
    room_left l.invariant (11 * l.entry-index) (length a.word.now + 6) most (omega arith)

pub loop-entry-preserved : goal.loop-entry-preserved
loop-entry-preserved c =
    let a = c.args in
    let w = c.put_line-end in
    subst (λ (t : List ℕ). Written a.out.now a.at t w.new.out w.result) (lines_more a.word.now a.entries.now c.loop-entry.entry-index (omega arith)) (and_then c.loop-entry.invariant w.ensures)
