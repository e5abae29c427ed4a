-- `suppose` meets its contract: by the label's mark, and its formula's number. Assumes nothing.
use mathlib.Core.Path.{◌∙◌}
use Rattle.rules.proofs.CitedFormulas.{supposed, not_supposed}
use Rattle.rules.proofs.NamedNumbers.{named_so, named_other}
use Rattle.rules.proofs.sixteen.suppose.Goals as goal

pub returns-then-is : goal.returns-then-is
returns-then-is c = let is = c.label_at-entry.ensures in
    supposed c.args.case.now.lent.lent c.requires.label_bound is.mark is.formula c.requires.numbered (named_so c.is.ensures c.if-is.true)

pub returns-else-is : goal.returns-else-is
returns-else-is c = c.if-is.false ∙ not_supposed c.args.case.now.lent.lent c.args.label c.label_at-entry.ensures.mark (named_other c.is.ensures c.if-is.false) _
