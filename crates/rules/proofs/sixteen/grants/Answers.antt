-- `grants` meets its contract: by the kind of the formula. Assumes nothing.
use mathlib.Core.Path.{sym, ◌∙◌}
use Rattle.rules.proofs.FormulaParts.{says_body, no_says}
use Rattle.rules.proofs.OwnedData.{granted}
use Rattle.rules.proofs.NamedNumbers.{named_so, named_other}
use Rattle.rules.proofs.sixteen.grants.Goals as goal

pub returns-then-is : goal.returns-then-is
returns-then-is c = let own = c.row_of-own in
    granted own.result c.requires own.ensures _ (named_so c.is.ensures c.if-is.true) (c.is_row.ensures _ (c.says.ensures _ (says_body own.result c.requires own.ensures (named_so c.is.ensures c.if-is.true))))

pub returns-else-is : goal.returns-else-is
returns-else-is c = let own = c.row_of-own in
    c.if-is.false ∙ sym (no_says own.result c.requires own.ensures (named_other c.is.ensures c.if-is.false) _ _ _)
