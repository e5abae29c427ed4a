-- `has_party` meets its contract: each arm is one clause of the definition. Assumes nothing.
use Rattle.definition.specs.21-Rules.{has_kind, has_party}
use Rattle.rules.specs.Misfits.{asked_meant}
use Rattle.rules.proofs.PremiseFaults.{owner_is, source_is, target_is, no_party}
use Rattle.rules.proofs.fit.has_party.Goals as goal

pub returns-in-SaysToAgent : goal.returns-in-SaysToAgent
unfolding has_kind has_party asked_meant
returns-in-SaysToAgent c f told kind = rw c.in-SaysToAgent.is (target_is told _ (rw c.in-SaysToAgent.is at kind))

pub returns-in-AgentSays : goal.returns-in-AgentSays
unfolding has_kind has_party asked_meant
returns-in-AgentSays c f told kind = rw c.in-AgentSays.is (source_is told _ (rw c.in-AgentSays.is at kind))

pub returns-in-AgentOwns : goal.returns-in-AgentOwns
unfolding has_kind has_party asked_meant
returns-in-AgentOwns c f told kind = rw c.in-AgentOwns.is (owner_is told _ (rw c.in-AgentOwns.is at kind))

pub returns-in_default : goal.returns-in_default
returns-in_default c f told kind = no_party _ f _ c.in_default.not-SaysToAgent c.in_default.not-AgentSays c.in_default.not-AgentOwns
