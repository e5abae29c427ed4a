-- `duty_by_obligation` meets its contract: the obligation's mark and action are the definition's. Assumes nothing.
use Rattle.rules.proofs.CitedFormulas.{obligation_numbered, done_by_obligation}
use Rattle.rules.proofs.sixteen.duty_by_obligation.Goals as goal

pub is_after-requires : goal.is_after-requires
is_after-requires c = (c.requires.numbered.1, obligation_numbered c.args.case.now.lent.lent c.requires.obligation_bound c.obligation_at-entry.ensures.action, c.requires.numbered.0)

pub returns : goal.returns
returns c = let is = c.obligation_at-entry.ensures in
    done_by_obligation c.args.case.now.lent.lent c.requires.obligation_bound is.mark is.action _ _ c.is_after.ensures
