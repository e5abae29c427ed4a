-- A case as the rules get it: formulas are trees, and the log is what the agent sees of it.
use Rattle.std.specs.Prelude.{ℕ, cond, List, eqb}
use Rattle.std.proofs.Math.Option.{Option, none, some}
use Rattle.definition.specs.01-Words.{absent}
use Rattle.definition.specs.11-Layout.{condition_part, obligation_part, label_part, step_part, premise_part, formula_part, part, count, agent_of, action_of, hour_of}
use Rattle.definition.specs.13-Formulas.{Formula}
use Rattle.definition.specs.14-Book.{tree_in, stray_row}
use Rattle.definition.specs.15-Records.{log_of, rows_in, formulas, condition_formula, obligation_mark, obligation_action, obligation_due, obligation_row, label_mark, label_formula, step_rule, step_formula, step_argument, step_from, step_count, premise_step}
use Rattle.definition.specs.16-Views.{RowView, row_view}

-- A label: a mark and a formula.
pub record Label : Type 0 where
  pub mark : ℕ
  pub formula : Formula

-- An obligation: the same, the hour by which it is due, and the log row that did it, if it names one.
pub record Obligation : Type 0 where
  pub mark : ℕ
  pub formula : Formula
  pub due : ℕ
  pub row : Option ℕ

-- A step. `stray` is the lowest row of its formula's tree that itself holds a data variable, or the number of rows: the place of check 27, and the one thing in a case that depends on how formulas are numbered.
pub record Step : Type 0 where
  pub rule : ℕ
  pub formula : Formula
  pub stray : ℕ
  pub argument : ℕ
  pub from : ℕ
  pub len : ℕ

pub record Case : Type 0 where
  pub agent : ℕ
  pub action : Formula
  pub hour : ℕ
  pub rows : ℕ
  pub row : ℕ → RowView
  pub conditions : ℕ
  pub condition : ℕ → Option Formula
  pub obligations : ℕ
  pub obligation : ℕ → Obligation
  pub labels : ℕ
  pub label : ℕ → Label
  pub steps : ℕ
  pub step : ℕ → Step
  pub premises : ℕ
  pub premise : ℕ → ℕ

-- A condition's formula, or none where "no reading was certified".
unfoldable pub reading : List Formula → ℕ → Option Formula
reading l n = cond (eqb n absent) none (some (tree_in l n))

-- The row that an obligation names: none where the number is absent, which is never row 0.
unfoldable pub row_named : ℕ → Option ℕ
row_named n = cond (eqb n absent) none (some n)

unfoldable pub case_of : List ℕ → Case
case_of s =
    let l = formulas s in
    record {
      agent = agent_of s;
      action = tree_in l (action_of s);
      hour = hour_of s;
      rows = rows_in (log_of s);
      row = row_view (log_of s) (agent_of s) l;
      conditions = count s condition_part;
      condition = λ k. reading l (condition_formula s k);
      obligations = count s obligation_part;
      obligation =
          λ k. record {
            mark = obligation_mark s k;
            formula = tree_in l (obligation_action s k);
            due = obligation_due s k;
            row = row_named (obligation_row s k);
          };
      labels = count s label_part;
      label = λ k. record { mark = label_mark s k; formula = tree_in l (label_formula s k) };
      steps = count s step_part;
      step =
          λ k. record {
            rule = step_rule s k;
            formula = tree_in l (step_formula s k);
            stray = stray_row (part s formula_part) (step_formula s k);
            argument = step_argument s k;
            from = step_from s k;
            len = step_count s k;
          };
      premises = count s premise_part;
      premise = premise_step s;
    }

-- What an evaluation unfolds of this file.
unfoldable pub evaluated_case : Unit {0}
unfolding reading row_named case_of
evaluated_case = tt
