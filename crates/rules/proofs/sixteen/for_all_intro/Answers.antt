-- `for_all_intro` meets its contract: the argument, then the body. Assumes nothing.
use mathlib.Core.Path.{sym, ◌∙◌}
use Rattle.definition.proofs.Tests.{both_first, both_second}
use Rattle.definition.specs.21-Rules.{first, for_all_intro}
use Rattle.rules.proofs.FormulaParts.{parameter_kind}
use Rattle.rules.proofs.sixteen.for_all_intro.Goals as goal

pub is_body-requires-clause-g_value : goal.is_body-requires-clause-g_value
is_body-requires-clause-g_value c = parameter_kind _ _ (sym c.admits_parameter.ensures ∙ c.if-admits_parameter.true)

pub returns-then-admits_parameter : goal.returns-then-admits_parameter
unfolding for_all_intro first
returns-then-admits_parameter c d = both_second c.admits_parameter.ensures c.if-admits_parameter.true c.is_body.ensures

pub returns-else-admits_parameter : goal.returns-else-admits_parameter
unfolding for_all_intro first
returns-else-admits_parameter c d = c.if-admits_parameter.false ∙ both_first _ c.admits_parameter.ensures c.if-admits_parameter.false
