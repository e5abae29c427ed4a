-- `is_that` meets its contract: the row of a policy tells it. Assumes nothing.
use Rattle.std.proofs.Common.{rules}
use Rattle.definition.specs.21-Rules.{is_that}
use Rattle.rules.specs.Policies.{policy_meant}
use Rattle.rules.proofs.policies.is_that.Goals as goal

pub returns : goal.returns
unfolding is_that policy_meant
returns c =
    let told = c.requires.told in
    search rules
