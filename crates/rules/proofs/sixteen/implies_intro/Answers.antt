-- `implies_intro` meets its contract: by the label's mark, and its formula. Assumes nothing.
use mathlib.Core.Path.{◌∙◌}
use Rattle.rules.proofs.CitedFormulas.{label_numbered, implied, not_implied}
use Rattle.rules.proofs.NamedNumbers.{named_so, named_other}
use Rattle.rules.proofs.sixteen.implies_intro.Goals as goal

pub returns-then-is : goal.returns-then-is
returns-then-is c = let is = c.label_at-entry.ensures in
    let lent = c.args.case.now.lent.lent in
    implied lent c.requires.label_bound is.mark is.formula _ _ (named_so c.is.ensures c.if-is.true)
    (c.is_row.ensures _ (c.implies.ensures _ (label_numbered lent c.requires.label_bound is.formula) c.requires.numbered.1))

pub returns-else-is : goal.returns-else-is
returns-else-is c = c.if-is.false ∙ not_implied c.args.case.now.lent.lent c.args.label c.label_at-entry.ensures.mark (named_other c.is.ensures c.if-is.false) _ _
