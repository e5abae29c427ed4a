-- Request 6, by the file's own numbers: exactly when checks 1, 7 and 9 refuse, where the new numbers lie, and what it is for the numbers that a duty is done. Assumes nothing.
use Prim.Native.Nat.{ℕ, ◌+◌, ◌*◌, ◌<◌}
use mathlib.Core.Path.{◌≡◌, refl, sym, ap, ◌∙◌}
use mathlib.Core.Bool.{Bool, true, false, cond}
use mathlib.Core.Logic.{◌⊎◌, ◌↔◌, ⊎_elim}
use mathlib.Core.Option.{none, some}
use mathlib.Core.List.{List, ◌++◌}
use native.Mathlib.Omega.{arith}
use lib.ListN.{length}
use lib.Dec.{eqb}
use borrow.Author.Tests.{eqb-true, eq-eqb}
use Rattle.definition.proofs.AdmissionLaws.{logged_book, admitted_logged, admitted_parted, admitted_obligation}
use Rattle.definition.proofs.CheckLaws.{all_hold, hold_all, by_number, first_fault, fault_first, fault_either, fault_behind, has_number, other_number}
use Rattle.definition.proofs.ConclusionLaws.{none_some}
use Rattle.definition.proofs.OccurrenceLaws.{agent_is}
use Rattle.definition.proofs.OneNumber.{one_number}
use Rattle.definition.proofs.OrderedLogs.{logged_ordered}
use Rattle.definition.proofs.PartLaws.{part_whole, book_few}
use Rattle.definition.proofs.ReadingLaws.{length_refused}
use Rattle.definition.proofs.RefusalTable.{refused_by_table}
use Rattle.definition.proofs.Tests.{and_true, and_is, or_is, refutes, not_both, equals_is, below_is, itself_is, faultless_not, faultless_or, faulty_is}
use Rattle.definition.proofs.Trees.{number_inside}
use Rattle.definition.proofs.ViewLaws.{row_shows}
use Rattle.definition.proofs.Windows.{window_word}
use Rattle.definition.specs.01-Words.{word, absent}
use Rattle.definition.specs.04-Checks.{single, each, Holds, Fails, AllHold, FirstFault, here, later, accepts, refuses, in_order}
use Rattle.definition.specs.11-Layout.{header_bytes, most_bytes, formula_part, condition_part, obligation_part, label_part, record_bytes, agent_of, action_of, hour_of, offset, size, count, part, field_in, field, bad_length, layout_checks}
use Rattle.definition.specs.12-Terms.{agents, agents_end, class_of, is_object}
use Rattle.definition.specs.13-Formulas.{each_use, once, is_action, is_ground}
use Rattle.definition.specs.14-Book.{tree_in, book_checks}
use Rattle.definition.specs.15-Records.{log_of, rows_in, row_action, formulas, obligation_mark, obligation_action, obligation_due, obligation_row, is_ground_action, is_duty, bad_condition, bad_row_named, bad_obligation, bad_label, bad_audit, log_checks, record_checks}
use Rattle.definition.specs.17-Case.{case_of, row_named}
use Rattle.definition.specs.18-Admission.{Parted, checks_to_log, admission_checks, admission}
use Rattle.definition.specs.22-Steps.{citation_checks, misfit_checks, fit_checks, shape_checks, above_checks, use_checks, step_checks, state_at}
use Rattle.definition.specs.23-Duties.{duty_checks}
use Rattle.definition.specs.31-Outcome.{owing_checks, closing_checks, room_checks, end_checks, final_state, Outcome}
use Rattle.definition.specs.44-Demands.{InTable, in_admission, in_owing, in_step, in_end, in_duties}
use Rattle.definition.specs.49-Duties.{RefusedForLength, DutiesRead, GoodDuty, RefusedBadDuty, GoodAudit, RefusedBadAudit, DoneByNumbers}

-- What the test of check 1 says.
length_is : (s : List ℕ) → (bad_length s ≡ true) ↔ ((length s < header_bytes) ⊎ (most_bytes < length s))
unfolding bad_length
length_is s = or_is (below_is (length s) header_bytes) (below_is most_bytes (length s))

-- Check 1 is the first of the admission, and no other check has its number.
first_1 : (s : List ℕ) (p : ℕ) → FirstFault (admission_checks s) 1 p → (p ≡ 0) × (bad_length s ≡ true)
unfolding admission_checks checks_to_log layout_checks book_checks log_checks record_checks
first_1 s p (here f) = (sym f.1, f.2)
first_1 s p (later h f) = other_number _ refl f

-- So of all checks, in whatever group the refusal is.
in_table_1 : (s : List ℕ) (m p : ℕ) → InTable s m 1 p → (p ≡ 0) × (bad_length s ≡ true)
unfolding owing_checks step_checks shape_checks above_checks use_checks citation_checks misfit_checks fit_checks closing_checks room_checks end_checks duty_checks
in_table_1 s m p (in_admission f) = first_1 s p f
in_table_1 s m p (in_owing a f) = other_number (owing_checks (case_of s)) refl f
in_table_1 s m p (in_step {k = k} a o lt before f) = other_number (step_checks (case_of s) k (state_at (case_of s) k)) refl f
in_table_1 s m p (in_end a o lt fine f) = other_number (end_checks (case_of s) (final_state (case_of s)) m) refl f
in_table_1 s m p (in_duties a o steps f) = other_number (duty_checks (case_of s)) refl f

pub refused_for_length : RefusedForLength
refused_for_length s room p = (
  λ e. let w = in_table_1 s (length room) p ((refused_by_table s room 1 p).0 e) in (w.0, (length_is s).0 w.1),
  λ w. rw w.0 (ap (λ (o : Outcome). o.verdict) (length_refused s room ((length_is s).1 w.1))),
)

-- A number that checks 1 to 5 do not have is refused exactly by checks 6 to 9, where those hold.
refused_record : (s : List ℕ) (n p : ℕ) → has_number n (checks_to_log s) ≡ false → (admission s ≡ refuses n p) ↔ ((in_order (checks_to_log s) ≡ accepts tt) × FirstFault (record_checks s) n p)
unfolding admission admission_checks
refused_record s n p none_there = (
  λ e.
      ⊎_elim (λ f. other_number (checks_to_log s) none_there f) (λ w. (hold_all (checks_to_log s) w.0, w.1))
      (fault_either (checks_to_log s) (record_checks s) (first_fault (checks_to_log s ++ record_checks s) n p e)),
  λ w. fault_first (fault_behind (checks_to_log s) (all_hold (checks_to_log s) w.0) w.1),
)

-- What the tests of checks 7 and 9 say.
module _ (s : List ℕ) where
  pub good_duty : (o : ℕ) → (bad_obligation s (formulas s) (rows_in (log_of s)) o ≡ false) ↔ GoodDuty s o
  unfolding bad_obligation is_duty bad_row_named
  good_duty o =
      let m = obligation_mark s o in
      let r = obligation_row s o in
      let marked = or_is (equals_is m each_use) (equals_is m once) in
      let acts = itself_is (is_ground_action (tree_in (formulas s) (obligation_action s o))) in
      let dated = refutes (equals_is (obligation_due s o) absent) in
      let named = faultless_not (or_is (equals_is r absent) (below_is r (rows_in (log_of s)))) in
      let t = faultless_or (faultless_or (faultless_not (and_is marked acts)) dated) named in (
        λ e. let w = t.0 e in record { mark = w.0.0.0; action = w.0.0.1; due = w.0.1; row = w.1 },
        λ g. t.1 (((g.mark, g.action), g.due), g.row),
      )

  pub good_audit : (bad_audit s (formulas s) ≡ false) ↔ GoodAudit s
  unfolding bad_audit
  good_audit =
      let agent : (is_object agents (class_of (agent_of s)) ≡ true) ↔ (agent_of s < agents_end) = rw (agent_is (agent_of s)) (below_is (agent_of s) agents_end) in
      let acts = itself_is (is_ground_action (tree_in (formulas s) (action_of s))) in
      let dated = refutes (equals_is (hour_of s) absent) in
      let t = faultless_or (faultless_not (and_is agent acts)) dated in (
        λ e. let w = t.0 e in record { agent = w.0.0; action = w.0.1; hour = w.1 },
        λ g. t.1 ((g.agent, g.action), g.hour),
      )

-- Which of checks 6 to 9 comes first.
module _ (s : List ℕ) (p : ℕ) where
  abbrev Conditions : Type 0
  Conditions = (k : ℕ) → k < count s condition_part → bad_condition s (formulas s) k ≡ false

  abbrev Duties : Type 0
  Duties = (o : ℕ) → o < count s obligation_part → GoodDuty s o

  abbrev Labels : Type 0
  Labels = (k : ℕ) → k < count s label_part → bad_label s (formulas s) k ≡ false

  -- 7: 6 holds, and it is the lowest obligation that is not good.
  first_7 : FirstFault (record_checks s) 7 p → Conditions × (p < count s obligation_part) × (GoodDuty s p → ⊥) × ((q : ℕ) → q < p → GoodDuty s q)
  unfolding record_checks
  first_7 (here f) = absurd (omega (arith, f.0))
  first_7 (later h (here f)) = (h, f.1.0, (faulty_is (good_duty s p)).0 f.1.1, λ q lt. (good_duty s q).0 (f.1.2 q lt))
  first_7 (later h (later g f)) = other_number _ refl f

  at_7 : Conditions → p < count s obligation_part → (GoodDuty s p → ⊥) → ((q : ℕ) → q < p → GoodDuty s q) → FirstFault (record_checks s) 7 p
  unfolding record_checks
  at_7 conditions inside bad before =
      let h : Holds (each 6 (count s condition_part) (bad_condition s (formulas s))) = conditions in
      let f : Fails (each 7 (count s obligation_part) (bad_obligation s (formulas s) (rows_in (log_of s)))) 7 p =
      (refl, (inside, (faulty_is (good_duty s p)).1 bad, λ q lt. (good_duty s q).1 (before q lt))) in
      later h (here f)

  -- 9: 6 to 8 hold, and the header is not good.
  first_9 : FirstFault (record_checks s) 9 p → Conditions × Duties × Labels × (GoodAudit s → ⊥) × (p ≡ 0)
  unfolding record_checks
  first_9 (here f) = absurd (omega (arith, f.0))
  first_9 (later h (here f)) = absurd (omega (arith, f.0))
  first_9 (later h (later g (here f))) = absurd (omega (arith, f.0))
  first_9 (later h (later g (later l (here f)))) = (h, λ o lt. (good_duty s o).0 (g o lt), l, (faulty_is (good_audit s)).0 f.2, sym f.1)
  first_9 (later h (later g (later l (later a f)))) = other_number _ refl f

  at_9 : Conditions → Duties → Labels → (GoodAudit s → ⊥) → p ≡ 0 → FirstFault (record_checks s) 9 p
  unfolding record_checks
  at_9 conditions duties labels bad first =
      let h : Holds (each 6 (count s condition_part) (bad_condition s (formulas s))) = conditions in
      let g : Holds (each 7 (count s obligation_part) (bad_obligation s (formulas s) (rows_in (log_of s)))) = λ o lt. (good_duty s o).1 (duties o lt) in
      let l : Holds (each 8 (count s label_part) (bad_label s (formulas s))) = labels in
      let f : Fails (single 9 0 (bad_audit s (formulas s))) 9 p = (refl, sym first, (faulty_is (good_audit s)).1 bad) in
      later h (later g (later l (here f)))

pub refused_bad_duty : RefusedBadDuty
unfolding checks_to_log layout_checks book_checks log_checks
refused_bad_duty s o =
    let r = refused_record s 7 o refl in (
      λ e. let w = r.0 e in let f = first_7 s o w.1 in ((w.0, f.0), f.1, f.2, f.3),
      λ w. r.1 (w.0.0, at_7 s o w.0.1 w.1 w.2 w.3),
    )

pub refused_bad_audit : RefusedBadAudit
unfolding checks_to_log layout_checks book_checks log_checks
refused_bad_audit s p =
    let r = refused_record s 9 p refl in (
      λ e. let w = r.0 e in let f = first_9 s p w.1 in ((w.0, f.0), f.1, f.2, f.3, f.4),
      λ w. r.1 (w.0.0, at_9 s p w.0.1 w.1 w.2 w.3 w.4),
    )

-- An absent row is none, and any other is itself.
named_is : (n k : ℕ) → (row_named n ≡ some k) ↔ ((n ≡ k) × (k ≡ absent → ⊥))
unfolding row_named
named_is n k = go (eqb n absent) refl
  where
    go : (b : Bool) → eqb n absent ≡ b → (cond b none (some n) ≡ some k) ↔ ((n ≡ k) × (k ≡ absent → ⊥))
    go true e = (λ q. absurd (none_some q), λ w. absurd (w.1 (sym w.0 ∙ eqb-true n absent e)))
    go false e = (λ q. let is : n ≡ k = cc in (is, λ a. not_both (eq-eqb n absent (is ∙ a)) e), λ w. ap some w.0)

-- The obligations' part has eight bytes for each, and a number of one is at its place in the file.
module _ (s : List ℕ) (g : Parted s) where
  obligations_size : size s obligation_part ≡ 8 * count s obligation_part
  unfolding count record_bytes
  obligations_size = omega (arith, part_whole s g obligation_part (omega arith))

  duty_field : (o i : ℕ) → o < count s obligation_part → i + 1 < 8 → field s obligation_part o i ≡ word s (offset s obligation_part + 8 * o + i)
  unfolding field field_in part record_bytes
  duty_field o i lt within =
      let at : offset s obligation_part + (8 * o + i) ≡ offset s obligation_part + 8 * o + i = omega arith in
      rw (← at) (window_word s (size s obligation_part) (offset s obligation_part) (8 * o + i) (omega (arith, obligations_size)))

pub duties_read : DutiesRead
unfolding case_of hour_of obligation_due obligation_row
duties_read s g = (
  refl,
  obligations_size s g,
  λ o lt.
      record {
        due = duty_field s g o 4 lt (omega arith);
        row = λ k. rw (← duty_field s g o 6 lt (omega arith)) (named_is (obligation_row s o) k);
      },
)

-- An admitted file: its actions are formulas of its book, and equal ones have equal numbers.
module _ (s : List ℕ) (is : admission s ≡ accepts tt) where
  abbrev rows : List ℕ
  rows = part s formula_part

  book_holds : AllHold (book_checks rows)
  book_holds = all_hold (book_checks rows) (logged_book s (admitted_logged s is))

  same_action : (a b : ℕ) → is_action (tree_in (formulas s) a) ≡ true → tree_in (formulas s) b ≡ tree_in (formulas s) a → b ≡ a
  unfolding formulas book_checks is_action
  same_action a b e same =
      one_number rows (by_number 3 (book_checks rows) book_holds).0 (by_number 4 (book_checks rows) book_holds).0 b a
      (number_inside rows b is_action refl (ap is_action same ∙ e)) (number_inside rows a is_action refl e) same

  -- Neither an action's number nor a row's is the absent one: book and log are short.
  action_there : (a : ℕ) → is_action (tree_in (formulas s) a) ≡ true → a ≡ absent → ⊥
  unfolding formulas is_action
  action_there a e = omega (arith, number_inside rows a is_action refl e, book_few s (admitted_parted s is))

  row_there : (k : ℕ) → k < rows_in (log_of s) → k ≡ absent → ⊥
  row_there k lt = omega (arith, (logged_ordered s (admitted_logged s is)).rows_few)

  -- Check 7 let each obligation pass, so it has an action.
  duty_action : (o : ℕ) → o < count s obligation_part → is_action (tree_in (formulas s) (obligation_action s o)) ≡ true
  unfolding is_ground_action
  duty_action o lt = let f = tree_in (formulas s) (obligation_action s o) in (and_true (is_action f) (is_ground f) ((good_duty s o).0 (admitted_obligation s is o lt)).action).0

-- The row is named, so it shows the obligation's action just if it is seen and has that number.
pub done_by_numbers : DoneByNumbers
unfolding case_of
done_by_numbers s o is lt =
    let a = obligation_action s o in
    let k = obligation_row s o in
    let action = duty_action s is o lt in
    let v = row_shows (log_of s) (agent_of s) (formulas s) k (tree_in (formulas s) a) in (
      λ w.
          let named = ((named_is k w.row).0 w.named).0 in
          let r = v.0 (rw named w.seen) in
          (r.0, r.1, same_action s is a (row_action (log_of s) k) action r.3),
      λ r.
          record {
            row = k;
            named = (named_is k k).1 (refl, row_there s is k r.0);
            seen = v.1 (r.0, r.1, rw r.2 (action_there s is a action), ap (tree_in (formulas s)) r.2);
          },
    )
