-- Two files that are alike to the agent, and that checks 1 and 2 let pass, are the same to every other check but 5, and the same case. Assumes nothing.
use Prim.Native.Nat.{ℕ, ◌<◌}
use mathlib.Core.Path.{◌≡◌, fun_ext}
use mathlib.Core.List.{List, [], ◌∷◌}
use native.Mathlib.Omega.{arith}
use Rattle.definition.proofs.PartLaws.{same_count}
use Rattle.definition.proofs.ViewLaws.{views_alike}
use Rattle.definition.specs.04-Checks.{single, each}
use Rattle.definition.specs.11-Layout.{formula_part, condition_part, obligation_part, label_part, step_part, premise_part, agent_of, part, count, field}
use Rattle.definition.specs.14-Book.{tree_in, stray_row}
use Rattle.definition.specs.15-Records.{log_of, formulas, condition_formula, obligation_mark, obligation_action, obligation_due, obligation_row, label_mark, label_formula, step_rule, step_formula, step_argument, step_from, step_count, premise_step, bad_condition, bad_obligation, bad_label, bad_audit, record_checks}
use Rattle.definition.specs.16-Views.{row_view}
use Rattle.definition.specs.17-Case.{reading, row_named, case_of}
use Rattle.definition.specs.18-Admission.{Parted}
use Rattle.definition.specs.43-Alike.{Alike}

-- A part's fields are read from its bytes alone.
pub same_field : (s t : List ℕ) (p : ℕ) → part s p ≡ part t p → (k i : ℕ) → field s p k i ≡ field t p k i
unfolding field
same_field s t p e k i = rw e

-- What all checks but 1, 2 and 5 read, each equal in both.
pub record Same (s t : List ℕ) : Type 0 where
  pub book : part s formula_part ≡ part t formula_part
  pub trees : formulas s ≡ formulas t
  pub records : record_checks s ≡ record_checks t
  pub case : case_of s ≡ case_of t

module _ (s t : List ℕ) (f : Parted s) (g : Parted t) (a : Alike s t) where
  same_trees : formulas s ≡ formulas t
  unfolding formulas
  same_trees = rw a.formulas

  same_views : row_view (log_of s) (agent_of s) (formulas s) ≡ row_view (log_of t) (agent_of t) (formulas t)
  same_views = rw (same_trees, ← a.agent) (fun_ext (views_alike (agent_of s) (log_of s) (log_of t) a.log (formulas t)))

  same_records : (p : ℕ) → p < 8 → part s p ≡ part t p → count s p ≡ count t p
  same_records = same_count s t f g

  same_case : case_of s ≡ case_of t
  unfolding case_of condition_formula obligation_mark obligation_action obligation_due obligation_row label_mark label_formula step_rule step_formula step_argument step_from step_count premise_step
  same_case =
      let condition = same_field s t condition_part a.conditions in
      let obligation = same_field s t obligation_part a.obligations in
      let label = same_field s t label_part a.labels in
      let step = same_field s t step_part a.steps in
      let premise = same_field s t premise_part a.premises in
      λ i. let l = same_trees i in
      record {
        agent = a.agent i;
        action = tree_in l (a.action i);
        hour = a.hour i;
        rows = a.log.rows i;
        row = same_views i;
        conditions = same_records condition_part (omega arith) a.conditions i;
        condition = λ k. reading l (condition k 0 i);
        obligations = same_records obligation_part (omega arith) a.obligations i;
        obligation = λ k. record { mark = obligation k 0 i; formula = tree_in l (obligation k 2 i); due = obligation k 4 i; row = row_named (obligation k 6 i) };
        labels = same_records label_part (omega arith) a.labels i;
        label = λ k. record { mark = label k 0 i; formula = tree_in l (label k 2 i) };
        steps = same_records step_part (omega arith) a.steps i;
        step = λ k. record { rule = step k 0 i; formula = tree_in l (step k 2 i); stray = stray_row (a.formulas i) (step k 2 i); argument = step k 4 i; from = step k 6 i; len = step k 8 i };
        premises = same_records premise_part (omega arith) a.premises i;
        premise = λ j. premise j 0 i;
      }

  same_condition : bad_condition s ≡ bad_condition t
  unfolding bad_condition condition_formula field
  same_condition = fun_ext λ l. fun_ext λ k. rw a.conditions

  same_obligation : bad_obligation s ≡ bad_obligation t
  unfolding bad_obligation obligation_mark obligation_action obligation_due obligation_row field
  same_obligation = fun_ext λ l. fun_ext λ n. fun_ext λ k. rw a.obligations

  same_label : bad_label s ≡ bad_label t
  unfolding bad_label label_mark label_formula field
  same_label = fun_ext λ l. fun_ext λ k. rw a.labels

  same_audit : bad_audit s ≡ bad_audit t
  unfolding bad_audit
  same_audit = fun_ext λ l. rw (a.agent, a.action, a.hour)

  same_checks : record_checks s ≡ record_checks t
  unfolding record_checks
  same_checks =
      λ i. let l = same_trees i in
      each 6 (same_records condition_part (omega arith) a.conditions i) (same_condition i l)
      ∷ each 7 (same_records obligation_part (omega arith) a.obligations i) (same_obligation i l (a.log.rows i))
      ∷ each 8 (same_records label_part (omega arith) a.labels i) (same_label i l)
      ∷ single 9 0 (same_audit i l)
      ∷ []

  pub same : Same s t
  same = record { book = a.formulas; trees = same_trees; records = same_checks; case = same_case }
