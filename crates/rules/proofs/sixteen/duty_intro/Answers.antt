-- `duty_intro` meets its contract: the label's mark and action are the definition's. Assumes nothing.
use Rattle.rules.proofs.CitedFormulas.{label_numbered, introduced}
use Rattle.rules.proofs.sixteen.duty_intro.Goals as goal

pub is_after-requires : goal.is_after-requires
is_after-requires c = (c.requires.numbered.0, label_numbered c.args.case.now.lent.lent c.requires.label_bound c.label_at-entry.ensures.formula, c.requires.numbered.1)

pub returns : goal.returns
returns c = let is = c.label_at-entry.ensures in
    introduced c.args.case.now.lent.lent c.requires.label_bound is.mark is.formula _ _ c.is_after.ensures
