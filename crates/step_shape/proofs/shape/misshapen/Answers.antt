-- `misshapen` meets its contract: its tests are those of check 12, in order. Assumes nothing.
use mathlib.Core.Path.{◌≡◌, sym, ap, ◌∙◌}
use mathlib.Core.Bool.{not, ◌||◌}
use lib.Dec.{ltb}
use borrow.Author.Tests.{lt-ltb, le-ltb}
use Rattle.definition.specs.15-Records.{step_rule}
use Rattle.definition.specs.17-Case.{case_of}
use Rattle.definition.specs.22-Steps.{rule_of}
use Rattle.step_shape.specs.RuleFit.{unlike_rule}
use Rattle.step_shape.proofs.ShapeTests.{is_closed_policy, bad_premise_span, misshapen_is, policy_answer}
use Rattle.step_shape.proofs.shape.misshapen.Goals as goal
use Rattle.step_shape.proofs.shape.misshapen.Goals.{Joined-step-gt15, Joined-not-closed_policy, then-step-gt15, else-step-gt15, then-not-closed_policy, else-not-closed_policy}

-- The rule, or the formula.
first_two : (j : Joined-step-gt15) → j.if-step-gt15.value ≡ (ltb 15 (step_rule j.args.case.now.file.now j.args.k) || not (is_closed_policy j.args.case.now.file.now j.args.k))
first_two j = let n = j.args.case.now in
    let is = j.requires.step_fields.0 in
    elim j.if-step-gt15.branch [
      | then-step-gt15 w ↦ w.value-is ∙ rw (← is.rule, lt-ltb _ _ w.if-step-gt15.true)
      | else-step-gt15 w ↦
          w.value-is ∙ rw (← is.rule, le-ltb _ _ w.if-step-gt15.false)
          (ap not (policy_answer n.file.now j.args.k n.book.now _ _ n.lent.lent.booked.is is.formula w.closed_policy.ensures))
    ]

-- Or the span.
first_three :
    (j : Joined-not-closed_policy) → j.if-step-gt15.value ≡ (ltb 15 (step_rule j.args.case.now.file.now j.args.k) || not (is_closed_policy j.args.case.now.file.now j.args.k)) →
    j.if-not-closed_policy.value
    ≡ (ltb 15 (step_rule j.args.case.now.file.now j.args.k) || not (is_closed_policy j.args.case.now.file.now j.args.k) || bad_premise_span j.args.case.now.file.now j.args.k)
unfolding bad_premise_span
first_three j two =
    elim j.if-not-closed_policy.branch [
      | then-not-closed_policy w ↦ w.value-is ∙ w.if-not-closed_policy.true ∙ sym (rw (sym two ∙ w.if-not-closed_policy.true))
      | else-not-closed_policy w ↦ w.value-is ∙ w.bad_premise_span.ensures ∙ sym (rw (sym two ∙ w.if-not-closed_policy.false))
    ]

pub returns-then-bad_premise_span : goal.returns-then-bad_premise_span
returns-then-bad_premise_span c =
    let at = goal.at.returns-then-bad_premise_span c in
    let all = sym (first_three at.Joined-not-closed_policy (first_two at.Joined-step-gt15)) ∙ c.if-bad_premise_span.true in
    c.if-bad_premise_span.true ∙ sym (misshapen_is c.args.case.now.file.now c.args.k ∙ rw all)

pub returns-else-bad_premise_span : goal.returns-else-bad_premise_span
unfolding case_of rule_of
returns-else-bad_premise_span c =
    let at = goal.at.returns-else-bad_premise_span c in
    let none = sym (first_three at.Joined-not-closed_policy (first_two at.Joined-step-gt15)) ∙ c.if-bad_premise_span.false in
    let is = c.requires.step_fields.0 in
    c.unlike_rule.ensures ∙ (λ i. unlike_rule (c.requires.step_fields.1 i) (is.len i) (is.argument i)) ∙ sym (misshapen_is c.args.case.now.file.now c.args.k ∙ rw none)
