-- `cites` meets its contract. Assumes nothing.
use Rattle.std.proofs.Common.{rules}
use Rattle.definition.specs.22-Steps.{is_evidence}
use Rattle.step_shape.specs.Meanings.{names_meant}
use Rattle.steps.proofs.step.cites.Goals as goal

pub returns-then-matches : goal.returns-then-matches
unfolding is_evidence names_meant
returns-then-matches c = search rules

pub returns-else-matches : goal.returns-else-matches
unfolding is_evidence names_meant
returns-else-matches c = search rules
