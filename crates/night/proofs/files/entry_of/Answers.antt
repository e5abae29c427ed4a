-- `entry_of` meets its contract: the three numbers of the verdict. Assumes nothing.
use mathlib.Core.Path.{ap}
use mathlib.Core.List.{[], ◌∷◌}
use Rattle.answers.specs.Meanings.{verdict_numbers_meant}
use Rattle.definition.specs.32-Numbers.{VerdictNumbers, verdict_entry}
use Rattle.night.proofs.files.entry_of.Goals as goal

pub returns : goal.returns
unfolding verdict_entry verdict_numbers_meant
returns c = ap (λ (n : VerdictNumbers). n.kind ∷ n.first ∷ n.second ∷ []) c.from-numbers.ensures
