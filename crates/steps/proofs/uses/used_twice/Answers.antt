-- `used_twice` meets its contract: its three tests, in order. Assumes nothing.
use Rattle.std.proofs.Common.{rules}
use mathlib.Core.Path.{◌≡◌, ◌∙◌}
use mathlib.Core.Bool.{◌&&◌}
use Rattle.definition.specs.17-Case.{case_of}
use Rattle.definition.specs.22-Steps.{is_adding, is_each_use}
use Rattle.tables.specs.Sets.{labels_of}
use Rattle.steps.specs.OpenLabels.{twice_used}
use Rattle.step_shape.specs.Meanings.{effect_meant, shape_meant}
use Rattle.steps.proofs.OpenLabelLaws.{added_is}
use Rattle.steps.proofs.uses.used_twice.Goals as goal

pub discharged_before-requires-clause-obligation_there : goal.discharged_before-requires-clause-obligation_there
unfolding shape_meant
discharged_before-requires-clause-obligation_there c = c.requires.entry_there.obligation

pub open_before-requires : goal.open_before-requires
unfolding shape_meant
open_before-requires c = c.requires.entry_there.label

pub returns-then-above : goal.returns-then-above
unfolding twice_used shape_meant case_of is_each_use
returns-then-above c = search rules

pub returns-else-above : goal.returns-else-above
unfolding twice_used shape_meant case_of
returns-else-above c = let s = c.args.file.now in
    let a = c.args.argument in
    let above = labels_of c.args.above.rests.opens.bits in
    let adds = is_adding (effect_meant c.args.shape.effect) in
    let e = c.requires.bits_value in
    let opened : c.open_before.result ≡ (adds && is_each_use (case_of s) a && above a) =
    c.open_before.ensures ∙ rw e (added_is s adds a (above a) c.requires.entry_there.added) in
    search rules
