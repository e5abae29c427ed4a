-- `admits_term` meets its contract: by the kind of the formula. Assumes nothing.
use mathlib.Core.Path.{sym, ◌∙◌}
use Rattle.rules.proofs.FormulaParts.{no_term, term_admitted}
use Rattle.rules.proofs.NamedNumbers.{named_so, named_other}
use Rattle.rules.proofs.sixteen.admits_term.Goals as goal

pub returns-then-is : goal.returns-then-is
returns-then-is c = let row = c.row_of-row in
    c.is_instance.ensures ∙ sym (term_admitted row.result c.requires row.ensures _ (named_so c.is.ensures c.if-is.true) c.sort_of.ensures)

pub returns-else-is : goal.returns-else-is
returns-else-is c = let row = c.row_of-row in
    c.if-is.false ∙ no_term row.result c.requires row.ensures _ (named_other c.is.ensures c.if-is.false)
