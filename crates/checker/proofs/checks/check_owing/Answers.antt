-- `check_owing` meets its contract: what is owed, and whether there are steps. Assumes nothing.
use Rattle.std.proofs.Common.{rules, Err, ◌≡◌}
use mathlib.Core.Path.{refl, ap, ◌∙◌}
use mathlib.Core.List.{List}
use lib.Dec.{ltb}
use Rattle.std.specs.Prelude as std
use Rattle.definition.specs.04-Checks.{try, single}
use Rattle.definition.specs.13-Formulas.{Formula}
use Rattle.definition.specs.17-Case.{case_of}
use Rattle.definition.specs.31-Outcome.{owes, is_owed, has_steps, no_proof, needless_proof, owing_checks}
use Rattle.rules.specs.Policies.{policy_meant}
use Rattle.rules.proofs.ActionPolicies.{action_numbered, owes_told}
use Rattle.words.proofs.CheckRuns.{checks_stop, checks_go_on, last_check}
use Rattle.checker.proofs.checks.check_owing.Goals as goal
use Rattle.checker.proofs.checks.check_owing.Goals.{After-single, then-is_owed, else-is_owed, then-not-is_owed, else-not-is_owed}

some_owed : (l : List Formula) (p : _) → std.is_some p ≡ is_owed (policy_meant l p)
unfolding policy_meant is_owed
some_owed l std.None = refl
some_owed l (std.Some r) = refl

-- Whether something is owed, and whether there are steps, as they were found.
owed_found : (c : After-single) → c.is_some-is_owed.result ≡ is_owed (owes (case_of c.args.case.now.file.now))
owed_found c =
    c.is_some-is_owed.ensures ∙ some_owed _ _ ∙ ap is_owed (owes_told c.args.case.now.lent.lent c.action_of-action.ensures c.agent_of.ensures c.owed_by.ensures)

steps_found : (c : After-single) → ltb 0 c.count_of-has_steps.result ≡ has_steps (case_of c.args.case.now.file.now)
unfolding has_steps case_of
steps_found c = ap (ltb 0) c.count_of-has_steps.ensures.0

-- The faults of checks 10 and 11.
fault_10 : (c : After-single) → c.if-is_owed.single ≡ no_proof (case_of c.args.case.now.file.now)
unfolding no_proof
fault_10 c = rw (← owed_found c, ← steps_found c) (elim c.if-is_owed.branch [ then-is_owed w ↦ search rules | else-is_owed w ↦ search rules ])

pub owed_by-requires : goal.owed_by-requires
owed_by-requires c = action_numbered c.args.case.now.lent.lent c.action_of-action.ensures

pub returns-in_err-single : goal.returns-in_err-single
unfolding owing_checks
returns-in_err-single c =
    let e : c.from_residual.result ≡ Err c.in_err-single.field-0.0 = search rules in
    rw e (checks_stop _ _ _ (c.in_err-single.ensures ∙ ap (λ b. try (single 10 0 b)) (fault_10 (goal.at.returns-in_err-single c).After-single)))

pub returns : goal.returns
unfolding owing_checks needless_proof
returns c =
    let s = (goal.at.returns c).After-single in
    let fault_11 : c.if-not-is_owed.single ≡ needless_proof (case_of c.args.case.now.file.now) =
    rw (← owed_found s, ← steps_found s) (elim c.if-not-is_owed.branch [ then-not-is_owed w ↦ search rules | else-not-is_owed w ↦ search rules ]) in
    c.single-2.ensures ∙ ap (λ b. try (single 11 0 b)) fault_11 ∙ last_check _ ∙ checks_go_on _ _ _ (c.in_ok-single.ensures ∙ ap (λ b. try (single 10 0 b)) (fault_10 s))
