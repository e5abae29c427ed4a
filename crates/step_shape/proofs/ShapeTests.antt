-- Check 12 as the code takes it: the rule, the formula, the span, and then what the rule says of premises and argument. Assumes nothing.
use Prim.Native.Nat.{ℕ}
use mathlib.Core.Path.{◌≡◌, ap, ◌∙◌}
use mathlib.Core.Bool.{Bool, not, ◌&&◌, ◌||◌, or_assoc}
use mathlib.Core.List.{List}
use lib.Dec.{eqb, ltb}
use Rattle.definition.specs.01-Words.{absent}
use Rattle.definition.specs.13-Formulas.{is_policy, closed}
use Rattle.definition.specs.14-Book.{book, tree_in}
use Rattle.definition.specs.11-Layout.{formula_part, step_part, premise_part, part, count}
use Rattle.definition.specs.15-Records.{formulas, step_rule, step_formula, step_argument, step_from, step_count, bad_span}
use Rattle.definition.specs.17-Case.{case_of}
use Rattle.definition.specs.21-Rules.{rule_at}
use Rattle.definition.specs.22-Steps.{rule_of, must_be_absent, misshapen}
use Rattle.step_shape.specs.RuleLines.{shape_of, rule_shape}
use Rattle.step_shape.specs.RuleFit.{unlike_rule}

module _ (s : List ℕ) (k : ℕ) where
  unfoldable pub is_closed_policy : Bool
  is_closed_policy = is_policy (tree_in (formulas s) (step_formula s k)) && closed (tree_in (formulas s) (step_formula s k))

  unfoldable pub bad_premise_span : Bool
  bad_premise_span = bad_span (step_from s) (step_count s) (count s step_part) (count s premise_part) k

  pub misshapen_is :
      misshapen (case_of s) k
      ≡ ltb 15 (step_rule s k) || not is_closed_policy || bad_premise_span || unlike_rule (shape_of (rule_at (step_rule s k))) (step_count s k) (step_argument s k)
  unfolding misshapen case_of rule_of is_closed_policy bad_premise_span unlike_rule shape_of rule_shape
  misshapen_is =
      let h = ltb 15 (step_rule s k) || not is_closed_policy || bad_premise_span in
      let r = rule_at (step_rule s k) in
      let d = ltb (step_count s k) r.least in
      let e = ltb r.most (step_count s k) in
      let f = must_be_absent r.names && not (eqb (step_argument s k) absent) in
      ap (λ x. x || f) (or_assoc h d e) ∙ or_assoc h (d || e) f

  -- what the book's answer says of the step's formula
  pub policy_answer : (b : List ℕ) (n : ℕ) (r : Bool) → b ≡ part s formula_part → n ≡ step_formula s k → r ≡ (is_policy (tree_in (book b) n) && closed (tree_in (book b) n)) → r ≡ is_closed_policy
  unfolding is_closed_policy formulas
  policy_answer b n r is e h = rw (← is, ← e) h
