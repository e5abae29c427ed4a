-- The numbers of rules and marks, and what a step's number names.
use Rattle.std.specs.Prelude.{ℕ, ◌≡◌, ◌<◌, Result, Ok, Err}
use Rattle.case_parts.specs.declared.named.Rule.{Rule}
use Rattle.case_parts.specs.declared.named.Rule.TheVariants as rule
use Rattle.case_parts.specs.declared.named.UnknownRule.{UnknownRule}
use Rattle.case_parts.specs.declared.named.Mark.{Mark}
use Rattle.case_parts.specs.declared.named.Mark.TheVariants as mark

abbrev pub rule_number : Rule → ℕ
rule_number rule.Suppose = 0
rule_number rule.ConditionRow = 1
rule_number rule.SeenRow = 2
rule_number rule.Say = 3
rule_number rule.Refine = 4
rule_number rule.Owner = 5
rule_number rule.AndIntro = 6
rule_number rule.AndLeft = 7
rule_number rule.AndRight = 8
rule_number rule.ImpliesIntro = 9
rule_number rule.ImpliesElim = 10
rule_number rule.DutyIntro = 11
rule_number rule.DutyByObligation = 12
rule_number rule.DutyByLabel = 13
rule_number rule.ForAllIntro = 14
rule_number rule.ForAllElim = 15

-- A number names the rule that has it; one above 15 names none.
abbrev pub RuleOf : ℕ → Result Rule UnknownRule → Type 0
RuleOf n (Ok r) = rule_number r ≡ n
RuleOf n (Err e) = (15 < n) × (e.0 ≡ n)

abbrev pub mark_number : Mark → ℕ
mark_number mark.Policy = 0
mark_number mark.EachUse = 1
mark_number mark.Once = 2
