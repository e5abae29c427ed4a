-- `no_tautology` meets its contract. Assumes nothing.
use Rattle.std.proofs.Common.{rules}
use mathlib.Core.Path.{sym, ◌∙◌}
use borrow.Author.Tests.{eqb-true}
use Rattle.definition.specs.17-Case.{case_of}
use Rattle.definition.specs.22-Steps.{no_tautology}
use native.Mathlib.Omega.{arith}
use Rattle.case_file.proofs.LentCaseLaws.{labels_few}
use Rattle.steps.proofs.RefiningLaws.{premise_inside, premise_below, first_rests_lem}
use Rattle.steps.proofs.refining.no_tautology.Goals as goal

pub overflow_cast-count_of : goal.overflow_cast-count_of
overflow_cast-count_of c = omega (arith, c.count_of.ensures.0, labels_few _ c.requires.parted)

pub premise_rests-requires : goal.premise_rests-requires
premise_rests-requires c = let is = c.requires.shaped_step.1 in
    let rule = eqb-true _ 4 (sym c.is.ensures ∙ c.if-is.true) in
    (c.requires.parted, premise_inside is c.args.left.now c.requires.parted c.requires.shaped_step.0 rule _ (omega arith), premise_below is c.args.left.now c.requires.parted c.requires.shaped_step.0 rule _ (omega arith))

pub on_something-requires : goal.on_something-requires
on_something-requires c = omega (arith, c.count_of.ensures.0, labels_few _ c.requires.parted)

pub returns-then-is : goal.returns-then-is
returns-then-is c = first_rests_lem c.requires.shaped_step.1 c.args.left.now c.requires.parted c.requires.shaped_step.0 (eqb-true _ 4 (sym c.is.ensures ∙ c.if-is.true)) c.premise_rests.result _ c.premise_rests.ensures c.count_of.ensures.0 c.on_something.ensures

pub returns-else-is : goal.returns-else-is
unfolding no_tautology case_of
returns-else-is c = search rules
