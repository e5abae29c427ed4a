-- `say` meets its contract: by the kind of the premise. Assumes nothing.
use mathlib.Core.Path.{◌∙◌}
use Rattle.rules.proofs.FormulaParts.{not_said, said}
use Rattle.rules.proofs.NamedNumbers.{named_so, named_other}
use Rattle.rules.proofs.sixteen.say.Goals as goal

pub returns-then-is : goal.returns-then-is
returns-then-is c = let row = c.row_of-premise in
    said row.result c.requires.1 row.ensures _ c.args.case.now.file.now (named_so c.is.ensures c.if-is.true) c.agent_of-agent.ensures (c.is_row.ensures _ (c.says.ensures _ c.requires.0))

pub returns-else-is : goal.returns-else-is
returns-else-is c a = let row = c.row_of-premise in
    c.if-is.false ∙ not_said row.result c.requires.1 row.ensures _ (named_other c.is.ensures c.if-is.false) _ a
