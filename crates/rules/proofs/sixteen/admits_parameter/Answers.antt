-- `admits_parameter` meets its contract: by the kind of the formula. Assumes nothing.
use mathlib.Core.Path.{sym, ap, ◌∙◌}
use Rattle.definition.specs.12-Terms.{is_parameter}
use Rattle.rules.proofs.FormulaParts.{no_parameter, parameter_admitted}
use Rattle.rules.proofs.NamedNumbers.{named_so, named_other}
use Rattle.rules.proofs.sixteen.admits_parameter.Goals as goal

pub returns-then-is : goal.returns-then-is
returns-then-is c = let row = c.row_of-row in
    c.is_parameter.ensures ∙ ap (is_parameter _) c.from.ensures
    ∙ sym (parameter_admitted row.result c.requires row.ensures _ (named_so c.is.ensures c.if-is.true) c.sort_of.ensures)

pub returns-else-is : goal.returns-else-is
returns-else-is c = let row = c.row_of-row in
    c.if-is.false ∙ no_parameter row.result c.requires row.ensures _ (named_other c.is.ensures c.if-is.false)
