-- `owed_by` meets its contract: the kinds of rows one by one. Assumes nothing.
use mathlib.Core.Path.{refl}
use Rattle.definition.specs.21-Rules.{owed}
use Rattle.formula_rows.specs.Meanings.{row_meant}
use Rattle.rules.proofs.ComparedRows.{predicate_stands}
use Rattle.rules.proofs.ActionPolicies.{communicated, acted, owes_nothing}
use Rattle.rules.proofs.NamedNumbers.{named_so, named_other}
use Rattle.rules.proofs.policies.owed_by.Goals as goal

pub returns-then-is : goal.returns-then-is
unfolding owed
returns-then-is c = let row = c.row_of-row in
    communicated _ _ c.requires row.ensures owed row.result.x _ (λ f. refl) (named_so c.is.ensures c.if-is.true) (λ m. c.of_agent.ensures _ _ (c.says.ensures _ m))

pub returns-then-is-2 : goal.returns-then-is-2
unfolding row_meant
returns-then-is-2 c = acted _ _ c.requires c.row_of-row.ensures _ (named_so c.is-else-is.ensures c.if-is-2.true) (c.of_agent-then-is-2.ensures _ _ (predicate_stands refl))

pub returns-else-is-2 : goal.returns-else-is-2
returns-else-is-2 c = owes_nothing _ _ c.requires c.row_of-row.ensures (named_other c.is.ensures c.if-is.false) (named_other c.is-else-is.ensures c.if-is-2.false)
