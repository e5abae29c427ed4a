-- `needless_argument` meets its contract. Assumes nothing.
use Rattle.std.proofs.Common.{rules}
use Rattle.definition.specs.22-Steps.{must_be_absent}
use Rattle.step_shape.specs.Meanings.{names_meant}
use Rattle.step_shape.proofs.shape.needless_argument.Goals as goal

pub returns-then-eq : goal.returns-then-eq
unfolding must_be_absent names_meant
returns-then-eq c = search rules

pub returns-else-eq : goal.returns-else-eq
unfolding must_be_absent names_meant
returns-else-eq c = search rules
