-- `not_fresh` meets its contract: the definition's tests in its order. Assumes nothing.
use Rattle.std.proofs.Common.{rules}
use mathlib.Core.Path.{◌≡◌, sym, ◌∙◌}
use borrow.Author.Tests.{eqb-true}
use Rattle.definition.specs.01-Words.{absent}
use Rattle.formula_rows.specs.Meanings.{sought_meant}
use Rattle.formula_book.proofs.Laws.{term_present}
use Rattle.rules.proofs.ComparedRows.{good_row}
use Rattle.rules.proofs.RuleNumbers.{term_there, names_term}
use Rattle.rules.proofs.ShapedStepLaws.{own_numbered, cites}
use Rattle.rules.proofs.CitedFormulas.{named}
use Rattle.steps.proofs.fresh.not_fresh.Goals as goal
use Rattle.steps.proofs.fresh.not_fresh.Goals.{Start}

-- The parameter is not absent.
there : (a : Start) → a.args.step.rule ≡ 14 → a.args.step.argument ≡ absent → ⊥
there a e = term_there a.args.case.now.file.now a.args.step.argument (names_term e) (cites a.args.case.now.lent.lent a.requires.0 a.requires.1)

pub formula_has-requires : goal.formula_has-requires
unfolding sought_meant
formula_has-requires c = record { good_row = good_row (own_numbered c.args.case.now.lent.lent c.requires.0 c.requires.1); present = term_present c.args.step.argument (there (goal.at.formula_has-requires c).Start (eqb-true _ 14 (sym c.is.ensures ∙ c.if-is.true))) }

pub returns-then-formula_has : goal.returns-then-formula_has
unfolding sought_meant
returns-then-formula_has c = let is = c.requires.1 in
    let tree = named c.args.case.now.lent.lent is.formula in
    search rules

pub in_open_labels-requires : goal.in_open_labels-requires
in_open_labels-requires c = there (goal.at.in_open_labels-requires c).Start (eqb-true _ 14 (sym c.is.ensures ∙ c.if-is.true))

pub returns-else-formula_has : goal.returns-else-formula_has
unfolding sought_meant
returns-else-formula_has c = let is = c.requires.1 in
    let tree = named c.args.case.now.lent.lent is.formula in
    search rules
