-- What the loop keeps: the whole is what is left, of which no more may be terms once a field was absent.
use mathlib.Core.Path.{◌≡◌}
use lib.ListN.{drop}
use Rattle.definition.specs.14-Book.{terms_first}
use Rattle.formula_book.proofs.TermFields.{left}
use Rattle.formula_book.proofs.fields.terms_first.Given as goal

abbrev pub invariant-loop-t : goal.invariant-loop-t
invariant-loop-t l = terms_first l.fields ≡ left l.ended (drop l.t-index l.fields)
