-- Check 28: what the first premise of a step of rule 4 rests on, as read from the table. Assumes nothing.
use Prim.Native.Nat.{ℕ, ◌+◌, ◌-◌, ◌<◌, ◌≤◌}
use mathlib.Core.Path.{◌≡◌, sym, ap, ◌∙◌}
use mathlib.Core.Bool.{Bool, ◌||◌}
use mathlib.Core.List.{List}
use native.Mathlib.Omega.{arith}
use borrow.Author.Tests.{eq-eqb}
use Rattle.definition.specs.02-Ranges.{any}
use Rattle.definition.specs.11-Layout.{label_part, premise_part, count}
use Rattle.definition.specs.15-Records.{step_rule, step_from, step_count, premise_step}
use Rattle.definition.specs.17-Case.{case_of}
use Rattle.definition.specs.18-Admission.{Parted}
use Rattle.definition.specs.21-Rules.{rule, rules, rule_at}
use Rattle.definition.specs.22-Steps.{premises_of, first_rests, no_tautology}
use Rattle.case_file.proofs.LentCaseLaws.{steps_few}
use Rattle.case_parts.specs.Records.{StepFields}
use Rattle.case_parts.specs.ShapedSteps.{ShapedStep}
use Rattle.case_parts.specs.declared.records.Step.{Step}
use Rattle.rules.proofs.ShapedStepLaws.{shaped}
use Rattle.step_shape.proofs.SpanWalks.{listed_next}
use Rattle.tables.specs.Sets.{rests_meant, rests_of}
use Rattle.tables.specs.declared.rests.Resting.{Resting}

module _ {s : List ℕ} {k : ℕ} {t : Step} (is : StepFields s k t) (left : List ℕ) (parted : Parted s) (st : ShapedStep s k) (e : t.rule ≡ 4) where
  rule_4 : step_rule s k ≡ 4
  rule_4 = sym is.rule ∙ e

  two : 2 ≤ step_count s k
  unfolding rule_at rules rule
  two = rw rule_4 at (shaped s k st.shaped).least

  -- each of its two premises
  pub premise_inside : (n : ℕ) → n < 2 → t.from + n < count s premise_part
  premise_inside n lt = omega (arith, two, is.from, (shaped s k st.shaped).span)

  pub premise_below : (n : ℕ) → n < 2 → premise_step s (t.from + n) < 2048
  premise_below n lt =
      let below = st.premises (t.from + n) (omega (arith, is.from)) (omega (arith, two, is.from)) in
      omega (arith, below, st.inside, steps_few s parted)

  pub first_rests_lem :
      {q : Bool} (r : Resting) (n : ℕ) → rests_meant r ≡ rests_of left (premise_step s (t.from + 0)) → n ≡ count s label_part →
      q ≡ (r.cites || any (rests_meant r).opens n 0) → q ≡ no_tautology (case_of s) (rests_of left) k
  unfolding no_tautology first_rests premises_of case_of
  first_rests_lem r n of few found =
      let at : t.from + 0 ≡ step_from s k = omega (arith, is.from) in
      let end = step_from s k + step_count s k in
      let all : end - step_from s k ≡ step_count s k = omega arith in
      let first = rw all at (listed_next (premise_step s) end (step_from s k) (omega (arith, two))) in
      let rests : rests_meant r ≡ rests_of left (premise_step s (step_from s k)) = of ∙ ap (λ j. rests_of left (premise_step s j)) at in
      found ∙ (λ i. (rests i).cites || any (rests i).opens (few i) 0) ∙ rw (eq-eqb (step_rule s k) 4 rule_4, first)
