-- What the functions that test the rules ask for.
use Rattle.std.specs.Prelude.{ℕ, ◌+◌, ◌≤◌, ◌<◌, List}
use Rattle.definition.specs.02-Ranges.{listed}
use Rattle.definition.specs.13-Formulas.{Formula}
use Rattle.definition.specs.14-Book.{tree_in}
use Rattle.definition.specs.11-Layout.{formula_part, step_part, premise_part, count}
use Rattle.definition.specs.15-Records.{formulas, step_formula, premise_step}

-- Premise entry j is there, and so are its step and the formula of that.
pub record PremiseThere (s : List ℕ) (j : ℕ) : Type 0 where
  pub entry : j < count s premise_part
  pub step : premise_step s j < count s step_part
  pub formula : step_formula s (premise_step s j) < count s formula_part

abbrev pub PremisesThere : List ℕ → (from len : ℕ) → Type 0
PremisesThere s from len = (j : ℕ) → from ≤ j → j < from + len → PremiseThere s j

-- The formula of premise entry j, and those of the premises in the span from `from` on.
abbrev pub formula_at : List ℕ → ℕ → Formula
formula_at s j = tree_in (formulas s) (step_formula s (premise_step s j))

unfoldable pub premise_trees : List ℕ → (from len : ℕ) → List Formula
premise_trees s from len = listed (formula_at s) len from
