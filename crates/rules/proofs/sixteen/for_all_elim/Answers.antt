-- `for_all_elim` meets its contract: the argument, then the body. Assumes nothing.
use mathlib.Core.Path.{sym, ◌∙◌}
use Rattle.definition.proofs.Tests.{both_first, both_second}
use Rattle.definition.specs.21-Rules.{first, for_all_elim}
use Rattle.rules.proofs.FormulaParts.{term_kind}
use Rattle.rules.proofs.sixteen.for_all_elim.Goals as goal

pub is_body-requires-clause-g_value : goal.is_body-requires-clause-g_value
is_body-requires-clause-g_value c = term_kind _ _ (sym c.admits_term.ensures ∙ c.if-admits_term.true)

pub returns-then-admits_term : goal.returns-then-admits_term
unfolding for_all_elim first
returns-then-admits_term c d = both_second c.admits_term.ensures c.if-admits_term.true c.is_body.ensures

pub returns-else-admits_term : goal.returns-else-admits_term
unfolding for_all_elim first
returns-else-admits_term c d = c.if-admits_term.false ∙ both_first _ c.admits_term.ensures c.if-admits_term.false
