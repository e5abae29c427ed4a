-- `and_right` meets its contract: by the kind of the premise. Assumes nothing.
use mathlib.Core.Path.{◌∙◌}
use Rattle.rules.proofs.FormulaParts.{and_parts, not_right, right}
use Rattle.rules.proofs.NamedNumbers.{named_so, named_other}
use Rattle.rules.proofs.sixteen.and_right.Goals as goal

pub returns-then-is : goal.returns-then-is
returns-then-is c = let row = c.row_of-premise in
    right row.result c.requires.1 row.ensures _ (named_so c.is.ensures c.if-is.true)
    (c.is_row.ensures _ (c.and.ensures _ (and_parts row.result c.requires.1 row.ensures (named_so c.is.ensures c.if-is.true)).first c.requires.0))

pub returns-else-is : goal.returns-else-is
returns-else-is c d a = let row = c.row_of-premise in
    c.if-is.false ∙ not_right row.result c.requires.1 row.ensures _ (named_other c.is.ensures c.if-is.false) d a
