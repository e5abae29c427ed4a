-- `in_open_label` meets its contract. Assumes nothing.
use Rattle.std.proofs.Common.{rules}
use native.Mathlib.Omega.{arith}
use Rattle.formula_rows.specs.Meanings.{sought_meant}
use Rattle.formula_book.proofs.Laws.{term_present}
use Rattle.rules.proofs.ComparedRows.{good_row}
use Rattle.rules.proofs.CitedFormulas.{named, label_numbered}
use Rattle.steps.proofs.FreshTerms.{label_few}
use Rattle.steps.proofs.fresh.in_open_label.Goals as goal

pub overflow_cast-l : goal.overflow_cast-l
overflow_cast-l c = omega (arith, label_few c.args.case.now.lent.lent c.requires.l_bound)

pub has-requires : goal.has-requires
has-requires c = label_few c.args.case.now.lent.lent c.requires.l_bound

pub formula_has-requires : goal.formula_has-requires
unfolding sought_meant
formula_has-requires c = record { good_row = good_row (label_numbered c.args.case.now.lent.lent c.requires.l_bound c.label_at.ensures.formula); present = term_present c.args.term c.requires.present }

pub returns-then-has : goal.returns-then-has
unfolding sought_meant
returns-then-has c = let tree = named c.args.case.now.lent.lent c.label_at.ensures.formula in
    search rules
