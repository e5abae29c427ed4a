-- `condition_row` meets its contract: no formula has the number that is absent. Assumes nothing.
use Rattle.rules.proofs.CitedFormulas.{certified}
use Rattle.rules.proofs.sixteen.condition_row.Goals as goal

pub returns : goal.returns
returns c = certified c.args.case.now.lent.lent c.requires.numbered c.requires.condition_bound c.condition_formula.ensures
