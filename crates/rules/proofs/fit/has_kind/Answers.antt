-- `has_kind` meets its contract: each arm is one clause of the definition. Assumes nothing.
use mathlib.Core.Logic.{inl, inr}
use mathlib.Core.Path.{◌∙◌}
use Rattle.definition.specs.21-Rules.{has_kind}
use Rattle.rules.specs.Misfits.{asked_meant}
use Rattle.rules.proofs.NamedNumbers.{named_so, named_other}
use Rattle.rules.proofs.PremiseFaults.{duty_first, duty_second}
use Rattle.rules.proofs.fit.has_kind.Goals as goal

pub returns-in-Anything : goal.returns-in-Anything
unfolding has_kind asked_meant
returns-in-Anything c f is = rw c.in-Anything.is

pub returns-in-SaysToAgent : goal.returns-in-SaysToAgent
unfolding has_kind asked_meant
returns-in-SaysToAgent c f is = c.is.ensures ∙ elim c.in-SaysToAgent.is [ inl e ↦ rw (e, is) | inr e ↦ rw (e, is) ]

pub returns-in-AgentOwns : goal.returns-in-AgentOwns
unfolding has_kind asked_meant
returns-in-AgentOwns c f is = c.is-in-AgentOwns.ensures ∙ rw (c.in-AgentOwns.is, is)

pub returns-in-And : goal.returns-in-And
unfolding has_kind asked_meant
returns-in-And c f is = c.is-in-And.ensures ∙ rw (c.in-And.is, is)

pub returns-in-ForAll : goal.returns-in-ForAll
unfolding has_kind asked_meant
returns-in-ForAll c f is = c.is-in-ForAll.ensures ∙ rw (c.in-ForAll.is, is)

pub returns-in-Implies : goal.returns-in-Implies
unfolding has_kind asked_meant
returns-in-Implies c f is = c.is-in-Implies.ensures ∙ rw (c.in-Implies.is, is)

pub returns-then-is : goal.returns-then-is
unfolding has_kind asked_meant
returns-then-is c f is = c.is-in-Duty.ensures ∙ rw c.in-Duty.is (duty_first is (named_so c.is-in-Duty.ensures c.if-is.true))

pub returns-else-is : goal.returns-else-is
unfolding has_kind asked_meant
returns-else-is c f is = c.is-else-is.ensures ∙ rw c.in-Duty.is (duty_second is (named_other c.is-in-Duty.ensures c.if-is.false))
