-- `mark_cited` meets its contract. Assumes nothing.
use Rattle.std.proofs.Common.{rules, length}
use mathlib.Core.Path.{◌≡◌}
use mathlib.Core.Bool.{true}
use Rattle.definition.specs.22-Steps.{mark_if, is_a_row, is_an_obligation}
use Rattle.step_shape.specs.Meanings.{names_meant}
use Rattle.tables.proofs.Assignments.{marks_set}
use Rattle.steps.proofs.step.mark_cited.Goals as goal

pub bounds-cited-argument : goal.bounds-cited-argument
unfolding names_meant
bounds-cited-argument c = rw c.in-Row.is at c.requires

pub bounds-discharged-argument : goal.bounds-discharged-argument
unfolding names_meant
bounds-discharged-argument c = rw c.in-Obligation.is at c.requires

pub returns-in-Row : goal.returns-in-Row
unfolding mark_if is_a_row is_an_obligation names_meant
returns-in-Row c = let told = c.in-Row.is in
    let long : length c.args.cited.now ≡ 1024 = search rules in
    let marked = marks_set c.args.cited.now c.args.argument true (rw long (rw told at c.requires)) in
    record { cited_long = search rules; discharged_long = search rules; cited = rw told marked; discharged = rw told }

pub returns-in-Obligation : goal.returns-in-Obligation
unfolding mark_if is_a_row is_an_obligation names_meant
returns-in-Obligation c = let told = c.in-Obligation.is in
    let long : length c.args.discharged.now ≡ 64 = search rules in
    let marked = marks_set c.args.discharged.now c.args.argument true (rw long (rw told at c.requires)) in
    record { cited_long = search rules; discharged_long = search rules; cited = rw told; discharged = rw told marked }

pub returns-in_default : goal.returns-in_default
unfolding mark_if is_a_row is_an_obligation names_meant
returns-in_default c = record { cited_long = search rules; discharged_long = search rules; cited = search rules; discharged = search rules }
