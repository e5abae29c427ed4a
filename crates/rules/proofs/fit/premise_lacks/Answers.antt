-- `premise_lacks` meets its contract: by the row of the premise. Assumes nothing.
use mathlib.Core.Path.{ap₂, ◌∙◌}
use native.Mathlib.Omega.{arith}
use Rattle.rules.specs.Misfits.{regard_meant}
use Rattle.rules.proofs.CitedFormulas.{named}
use Rattle.rules.proofs.FormulaParts.{told}
use Rattle.rules.proofs.OwnedData.{premise_few}
use Rattle.rules.proofs.fit.premise_lacks.Goals as goal

pub overflow_add-from : goal.overflow_add-from
overflow_add-from c = omega (arith, premise_few c.args.case.now.lent.lent c.requires.premise)

pub returns : goal.returns
returns c =
    c.lacks.ensures _ (told c.row_of-row.result c.premise_formula-premise.ensures.numbered c.row_of-row.ensures)
    ∙ ap₂ (regard_meant c.args.regard) c.asked_of.ensures (named c.args.case.now.lent.lent c.premise_formula-premise.ensures.is)
