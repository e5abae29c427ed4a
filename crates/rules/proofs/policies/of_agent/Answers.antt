-- `of_agent` meets its contract. Assumes nothing.
use lib.Dec.{eqb}
use Rattle.rules.proofs.ActionPolicies.{given_if}
use Rattle.rules.proofs.policies.of_agent.Goals as goal

pub returns : goal.returns
returns c b f stands = rw c.then_some.ensures (given_if (eqb c.args.who c.args.agent) stands)
