-- What the code's words for premises stand for, what a row tells of its formula, and whether a step fits its rule.
use Rattle.std.specs.Prelude.{ℕ, Bool, not, ◌≡◌}
use Rattle.definition.specs.04-Checks.{Checked, accepts, ◌>>◌, try, single}
use Rattle.definition.specs.13-Formulas.{Formula, kind_of, source, target}
use Rattle.definition.specs.17-Case.{Case}
use Rattle.definition.specs.21-Rules as rules
use Rattle.definition.specs.22-Steps.{stray_variable, misfit}
use Rattle.formula_rows.specs.declared.rows.Row as rows
use Rattle.rules.specs.declared.fit.Asked.{Asked}
use Rattle.rules.specs.declared.fit.Asked.TheVariants as asked
use Rattle.rules.specs.declared.fit.Regard.{Regard}
use Rattle.rules.specs.declared.fit.Regard.TheVariants as regard

unfoldable pub asked_meant : Asked → rules.Asked
asked_meant asked.Anything = rules.anything
asked_meant asked.SaysToAgent = rules.says_to_agent
asked_meant asked.AgentSays = rules.agent_says
asked_meant asked.AgentOwns = rules.agent_owns
asked_meant asked.And = rules.an_and
asked_meant asked.ForAll = rules.a_for_all
asked_meant asked.Implies = rules.an_implies
asked_meant asked.Duty = rules.a_duty

-- The fault that is looked for.
unfoldable pub regard_meant : Regard → rules.Asked → Formula → Bool
regard_meant regard.Kind = rules.is_other_kind
regard_meant (regard.Party agent) = rules.is_other_party agent

-- A row tells its formula's kind and, where it is an "owns" or a "says", its parties.
pub record RowTells (r : rows.Row) (f : Formula) : Type 0 where
  pub kind : r.kind ≡ kind_of f
  pub owner : r.kind ≡ 1 → r.x ≡ source f
  pub source : r.kind ≡ 2 → r.x ≡ source f
  pub target : r.kind ≡ 2 → r.z ≡ target f

-- Check 27 of step k, and then whether the step fits its rule.
unfoldable pub fit_run : Case → ℕ → Checked Bool
fit_run c k = do
  try (single 27 (c.step k).stray (stray_variable c k))
  accepts (not (misfit c k))
