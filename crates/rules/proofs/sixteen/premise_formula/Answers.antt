-- `premise_formula` meets its contract. Assumes nothing.
use mathlib.Core.Path.{ap, ◌∙◌}
use Rattle.definition.specs.15-Records.{step_formula}
use Rattle.case_file.proofs.LentCaseLaws.{numbered}
use Rattle.rules.proofs.sixteen.premise_formula.Goals as goal

pub returns-clause-is : goal.returns-clause-is
returns-clause-is c = c.step_at.ensures.formula ∙ ap (step_formula c.args.case.now.file.now) c.premise_step-premise.ensures

pub returns-clause-numbered : goal.returns-clause-numbered
returns-clause-numbered c = rw (returns-clause-is c) (numbered c.args.case.now.lent.lent c.requires.formula)
