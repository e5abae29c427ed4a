-- A step that checks 12 to 16 have let pass.
use Rattle.std.specs.Prelude.{ℕ, ◌+◌, ◌≤◌, ◌<◌, false, ◌≡◌, List}
use Rattle.definition.specs.11-Layout.{formula_part, step_part, count}
use Rattle.definition.specs.15-Records.{step_formula, step_argument, step_from, step_count, premise_step}
use Rattle.definition.specs.17-Case.{Case, case_of}
use Rattle.definition.specs.21-Rules.{Names}
use Rattle.definition.specs.22-Steps.{rule_of, misshapen, cites_absent, cites_nothing, cites_hidden, cites_struck}

-- The steps before k have formulas of the book.
abbrev pub EarlierNumbered : List ℕ → ℕ → Type 0
EarlierNumbered s k = (j : ℕ) → j < k → step_formula s j < count s formula_part

-- Every premise of the span is one of the first k steps.
abbrev pub PremisesBelow : List ℕ → (from len k : ℕ) → Type 0
PremisesBelow s from len k = (j : ℕ) → from ≤ j → j < from + len → premise_step s j < k

-- What a step cites is there, and shows.
pub record CitedEntry (c : Case) (n : Names) (a : ℕ) : Type 0 where
  pub present : cites_absent c n a ≡ false
  pub there : cites_nothing c n a ≡ false
  pub seen : cites_hidden c n a ≡ false
  pub unstruck : cites_struck c n a ≡ false

-- What holds of step k then.
pub record ShapedStep (s : List ℕ) (k : ℕ) : Type 0 where
  pub inside : k < count s step_part
  pub shaped : misshapen (case_of s) k ≡ false
  pub earlier : EarlierNumbered s k
  pub premises : PremisesBelow s (step_from s k) (step_count s k) k
  pub cites : CitedEntry (case_of s) (rule_of (case_of s) k).names (step_argument s k)
