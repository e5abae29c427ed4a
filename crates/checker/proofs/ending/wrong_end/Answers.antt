-- `wrong_end` meets its contract. Assumes nothing.
use Prim.Native.Nat.{◌-◌}
use mathlib.Core.Path.{◌≡◌, ap, ◌∙◌}
use mathlib.Core.Bool.{not}
use native.Mathlib.Omega.{arith}
use Rattle.definition.specs.11-Layout.{step_part, count}
use Rattle.definition.specs.15-Records.{step_formula}
use Rattle.definition.specs.17-Case.{case_of}
use Rattle.definition.specs.21-Rules.{is_that}
use Rattle.definition.specs.31-Outcome.{last_step, wrong_end}
use Rattle.case_file.proofs.LentCaseLaws.{numbered}
use Rattle.rules.proofs.CitedFormulas.{named}
use Rattle.rules.proofs.ActionPolicies.{action_numbered, owes_told}
use Rattle.checker.proofs.ending.wrong_end.Goals as goal

pub owed_by-owed-requires : goal.owed_by-owed-requires
owed_by-owed-requires c = action_numbered c.args.case.now.lent.lent c.action_of-action.ensures

pub is_that-requires-clause-numbered : goal.is_that-requires-clause-numbered
is_that-requires-clause-numbered c = rw c.step_at-step.ensures.formula (numbered c.args.case.now.lent.lent (c.requires.1 _ (omega (arith, c.requires.0))))

pub returns : goal.returns
unfolding wrong_end last_step case_of
returns c = let s = c.args.case.now.file.now in
    let lent = c.args.case.now.lent.lent in
    let last : c.args.last ≡ count s step_part - 1 = omega (arith, c.requires.0) in
    let formula = named lent (c.step_at-step.ensures.formula ∙ ap (step_formula s) last) in
    let owed = owes_told lent c.action_of-action.ensures c.agent_of.ensures c.owed_by-owed.ensures in
    ap not (c.is_that.ensures ∙ (λ i. is_that (formula i) (owed i)))
