-- `in_open_labels` meets its contract: the numbers of the labels, one after the other. Assumes nothing.
use Rattle.std.proofs.Common.{rules, tests}
use Rattle.std.proofs.lemmas.Iterator.{YieldsList-from_range}
use Rattle.std.proofs.lemmas.Iterator.Search.{any_from_yields_List}
use mathlib.Core.Path.{refl, ◌∙◌}
use native.Mathlib.Omega.{arith}
use Rattle.definition.specs.17-Case.{case_of}
use Rattle.steps.specs.OpenLabels.{in_open_labels}
use Rattle.steps.proofs.FreshTerms.{in_label, any_in_range}
use Rattle.steps.proofs.fresh.in_open_labels.Goals as goal

pub returns : goal.returns
unfolding in_open_labels case_of
returns c =
    let s = c.args.case.now.file.now in
    let test = in_label s c.args.term c.args.above.bits in
    any_from_yields_List test _ _ _ c.any.ensures.ran (YieldsList-from_range 0 c.count_of.result c.count_of.result refl (omega arith)) (λ x b q k. search (rules, tests))
    ∙ any_in_range test c.count_of.result 0 ∙ rw c.count_of.ensures.0
