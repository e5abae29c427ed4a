-- `owns_premise` meets its contract: by the row of the premise. Assumes nothing.
use mathlib.Core.Path.{sym}
use native.Mathlib.Omega.{arith}
use Rattle.rules.proofs.OwnedData.{compared, premise_few}
use Rattle.rules.proofs.sixteen.owns_premise.Goals as goal

pub overflow_add-from : goal.overflow_add-from
overflow_add-from c = omega (arith, premise_few c.args.case.now.lent.lent c.requires)

pub returns : goal.returns
returns c = sym (compared c.args.case.now.lent.lent c.premise_formula-premise.ensures.is _ (sym (c.is_row.ensures _ (c.owns.ensures _))))
