-- Request 6: exactly when checks 31 and 32 refuse; an unseen row is not done; what the request leaves as it was; and no file of the layout before it is read by the new one. Assumes nothing.
use Prim.Native.Nat.{ℕ, ◌<◌}
use mathlib.Core.Path.{◌≡◌, refl, sym, ap, ◌∙◌}
use mathlib.Core.Bool.{Bool, true, false}
use mathlib.Core.Logic.{◌⊎◌, inl, inr, ⊎_elim, ◌↔◌}
use mathlib.Core.Option.{some}
use mathlib.Core.List.{List, [], ◌∷◌, ◌++◌}
use native.Mathlib.Omega.{arith}
use lib.ListN.{length}
use Rattle.definition.proofs.CheckLaws.{never_both, all_hold, hold_all, fault_either, fault_before, fault_behind, fault_first, none_such, other_number}
use Rattle.definition.proofs.ConclusionLaws.{none_some}
use Rattle.definition.proofs.DutyLaws.{undone_is, names_again_is, kept_holding}
use Rattle.definition.proofs.Findings.{fault_outcome}
use Rattle.definition.proofs.NoneOwed.{owes_nothing, nothing_owing}
use Rattle.definition.proofs.OwnNumbers.{left_out_alone}
use Rattle.definition.proofs.Passes.{closing_proves, proves_owing, proves_closing}
use Rattle.definition.proofs.PassesExactly.{case_small, proves_accounted, accounted_proves}
use Rattle.definition.proofs.RefusalTable.{owed_of_steps, none_owed_of, refused_by_table}
use Rattle.definition.proofs.Tests.{refutes}
use Rattle.definition.proofs.ViewLaws.{unseen_hidden}
use Rattle.definition.specs.04-Checks.{single, each, Holds, Lowest, Fails, AllHold, FirstFault, here, later, refuses, ◌>>◌}
use Rattle.definition.specs.11-Layout.{formula_part, agent_of, offset, part, due_offset, bad_length, is_misplaced, faulty_part, layout_checks}
use Rattle.definition.specs.14-Book.{book_checks}
use Rattle.definition.specs.15-Records.{log_of, formulas, log_checks, record_checks}
use Rattle.definition.specs.16-Views.{hidden, shows}
use Rattle.definition.specs.17-Case.{Case, case_of}
use Rattle.definition.specs.18-Admission.{checks_to_log, admission_checks, admission}
use Rattle.definition.specs.22-Steps.{citation_checks, misfit_checks, fit_checks, shape_checks, above_checks, use_checks, step_checks, state_at}
use Rattle.definition.specs.23-Duties.{undone, names_again, duty_checks}
use Rattle.definition.specs.31-Outcome.{owing_checks, closing_checks, room_checks, end_checks, final_state, case_checks, all_checks, refused, report, outcome}
use Rattle.definition.specs.35-Index.{index_room_checks, building_checks, lay, building, as_built_checks, checks_through, finding_through, outcome_through}
use Rattle.definition.specs.44-Demands.{InTable, in_admission, in_owing, in_step, in_end, in_duties, Accounted, OwesNothing}
use Rattle.definition.specs.49-Duties.{ButForDuties, NotKept, NamedTwice, LowestOf, RefusedUndone, RefusedNamedTwice, UnseenIsNotDone, is_duty_number, DutiesAlone, KeptAsBefore, NoneDueKept, OldIsRefused}

-- The checks of the duties are reached exactly where all is accounted for but the duties.
module _ (s : List ℕ) (m : ℕ) where
  abbrev c : Case
  c = case_of s

  abbrev Faulty : (number place : ℕ) → Type 0
  Faulty n p = FirstFault (duty_checks c) n p

  -- Behind checks 20 to 22, before 23.
  in_closing : {n p : ℕ} → is_duty_number n ≡ true → FirstFault (end_checks c (final_state c) m) n p → AllHold (closing_checks c (final_state c)) × Faulty n p
  unfolding is_duty_number closing_checks room_checks end_checks
  in_closing {n} {p} e f =
      ⊎_elim
      (λ g. ⊎_elim (λ h. none_such is_duty_number (closing_checks c (final_state c)) refl e h) (λ h. h) (fault_either (closing_checks c (final_state c)) (duty_checks c) g))
      (λ g. none_such is_duty_number (room_checks c (final_state c) m) refl e g.1)
      (fault_either (closing_checks c (final_state c) ++ duty_checks c) (room_checks c (final_state c) m) f)

  duties_reached : {n p : ℕ} → is_duty_number n ≡ true → InTable s m n p → ButForDuties s × Faulty n p
  unfolding is_duty_number checks_to_log admission_checks admission layout_checks book_checks log_checks record_checks owing_checks step_checks shape_checks above_checks use_checks citation_checks misfit_checks fit_checks
  duties_reached e (in_admission f) = none_such is_duty_number (admission_checks s) refl e f
  duties_reached e (in_owing a f) = none_such is_duty_number (owing_checks c) refl e f
  duties_reached e (in_step {k = k} a o lt before f) = none_such is_duty_number (step_checks c k (state_at c k)) refl e f
  duties_reached e (in_end a o lt fine f) =
      let w = in_closing e f in
      let owed = (owed_of_steps c o lt).1 in
      ((hold_all (admission_checks s) a, inl (proves_accounted c owed (closing_proves c owed lt fine w.0))), w.1)
  duties_reached e (in_duties a o steps f) = ((hold_all (admission_checks s) a, inr (owes_nothing c (none_owed_of c o steps) steps)), f)

  reached_duties : {n p : ℕ} → ButForDuties s → Faulty n p → InTable s m n p
  unfolding admission end_checks
  reached_duties {n} {p} b f = ⊎_elim of_account of_nothing b.1
    where
      of_account : Accounted c → InTable s m n p
      of_account w =
          let q = accounted_proves c (case_small s b.0) w in
          let ends = fault_before (room_checks c (final_state c) m) (fault_behind (closing_checks c (final_state c)) (proves_closing c q.1 q.2) f) in
          in_end (all_hold (admission_checks s) b.0) (proves_owing c q.1 q.2) q.2.some_step q.2.fine ends

      of_nothing : OwesNothing c → InTable s m n p
      of_nothing w = in_duties (all_hold (admission_checks s) b.0) (nothing_owing c w) w.0 f

-- So a refusal by 31 or 32 comes exactly there, in any room.
refused_duty : (s room : List ℕ) (n p : ℕ) → is_duty_number n ≡ true → ((outcome s room).verdict ≡ refused n p) ↔ (ButForDuties s × FirstFault (duty_checks (case_of s)) n p)
refused_duty s room n p e = (
  λ r. duties_reached s (length room) e ((refused_by_table s room n p).0 r),
  λ w. (refused_by_table s room n p).1 (reached_duties s (length room) w.0 w.1),
)

-- Which of the two comes first, and at which obligation.
module _ (c : Case) (o : ℕ) where
  -- The lowest place at which a test finds a fault is the lowest obligation of which its fact holds.
  lowest_of : {fault : ℕ → Bool} {P : ℕ → Type 0} → ((q : ℕ) → (fault q ≡ true) ↔ P q) → Lowest fault c.obligations o ↔ LowestOf P c o
  lowest_of is = (
    λ l. (l.0, (is o).0 l.1, λ q lt. (refutes (is q)).0 (l.2 q lt)),
    λ l. (l.0, (is o).1 l.1, λ q lt. (refutes (is q)).1 (l.2 q lt)),
  )

  -- 31: the lowest that has expired and was not carried out.
  first_31 : FirstFault (duty_checks c) 31 o → LowestOf (NotKept c) c o
  unfolding duty_checks
  first_31 (here f) = (lowest_of (undone_is c)).0 f.1
  first_31 (later h f) = other_number (each 32 c.obligations (names_again c) ∷ []) refl f

  at_31 : LowestOf (NotKept c) c o → FirstFault (duty_checks c) 31 o
  unfolding duty_checks
  at_31 l = let f : Fails (each 31 c.obligations (undone c)) 31 o = (refl, (lowest_of (undone_is c)).1 l) in here f

  -- 32: there is none such, and it is the lowest that names a row again.
  abbrev AllDone : Type 0
  AllDone = (q : ℕ) → q < c.obligations → NotKept c q → ⊥

  first_32 : FirstFault (duty_checks c) 32 o → AllDone × LowestOf (NamedTwice c) c o
  unfolding duty_checks
  first_32 (here f) = absurd (omega (arith, f.0))
  first_32 (later h (here f)) = (λ q lt. (refutes (undone_is c q)).0 (h q lt), (lowest_of (names_again_is c)).0 f.1)
  first_32 (later h (later g f)) = other_number [] refl f

  at_32 : AllDone → LowestOf (NamedTwice c) c o → FirstFault (duty_checks c) 32 o
  unfolding duty_checks
  at_32 done l =
      let h : Holds (each 31 c.obligations (undone c)) = λ q lt. (refutes (undone_is c q)).1 (done q lt) in
      let f : Fails (each 32 c.obligations (names_again c)) 32 o = (refl, (lowest_of (names_again_is c)).1 l) in
      later h (here f)

pub refused_undone : RefusedUndone
unfolding is_duty_number
refused_undone s room o =
    let r = refused_duty s room 31 o refl in (
      λ e. let w = r.0 e in (w.0, first_31 (case_of s) o w.1),
      λ w. r.1 (w.0, at_31 (case_of s) o w.1),
    )

pub refused_named_twice : RefusedNamedTwice
unfolding is_duty_number
refused_named_twice s room o =
    let r = refused_duty s room 32 o refl in (
      λ e. let w = r.0 e in let f = first_32 (case_of s) o w.1 in (w.0, f.0, f.1),
      λ w. r.1 (w.0, at_32 (case_of s) o w.1 w.2),
    )

-- The agent sees nothing of an unseen row, and so no action.
pub unseen_is_not_done : UnseenIsNotDone
unfolding case_of
unseen_is_not_done s o k names unseen w =
    let named : some k ≡ some w.row = sym names ∙ w.named in
    let is : k ≡ w.row = cc in
    let nothing : hidden ≡ shows ((case_of s).obligation o).formula = sym (unseen_hidden (log_of s) (agent_of s) (formulas s) k unseen) ∙ rw is w.seen in
    let z : ◌≡◌ {A = ℕ} 0 1 = cc in
    omega arith

-- By the law for whatever numbers are left out.
pub duties_alone : DutiesAlone
duties_alone = left_out_alone is_duty_number

-- Where the duties are kept, checks 31 and 32 change nothing.
pub kept_as_before : KeptAsBefore
kept_as_before s room kept =
    let holds = hold_all (duty_checks (case_of s)) (kept_holding (case_of s) kept) in
    ⊎_elim (λ e. e)
    (λ w. absurd (never_both (sym holds ∙ fault_first ((refused_duty s room w.0 w.1 w.2).0 (ap (λ r. r.verdict) w.3)).1)))
    (duties_alone s room)

-- So it is where none has expired and no row is named.
pub none_due_kept : NoneDueKept
none_due_kept c none_due =
    record {
      carried_out = λ o lt due. absurd (omega (arith, due, (none_due o lt).0));
      apart = λ o p k before lt e f names named. none_some (sym (none_due p lt).1 ∙ named);
    }

-- Check 1 or 2 refuses before any other check, at every entry point.
module _ (s : List ℕ) {n p : ℕ} (f : FirstFault (layout_checks s) n p) where
  in_logged : FirstFault (checks_to_log s) n p
  unfolding checks_to_log
  in_logged = fault_before (log_checks (log_of s) (formulas s)) (fault_before (book_checks (part s formula_part)) f)

  in_admitted : FirstFault (admission_checks s) n p
  unfolding admission_checks
  in_admitted = fault_before (record_checks s) in_logged

  layout_checked : (room : List ℕ) → outcome s room ≡ record { verdict = refused n p; room = room }
  unfolding all_checks
  layout_checked room = fault_outcome s room (fault_before (case_checks (case_of s) (length room)) in_admitted)

  layout_admitted : admission s ≡ refuses n p
  unfolding admission
  layout_admitted = fault_first in_admitted

  layout_built : (room : List ℕ) → building s room ≡ record { answer = refuses n p; room = room }
  unfolding building building_checks lay
  layout_built room = rw (fault_first (fault_before (index_room_checks (log_of s) (length room)) in_logged))

  layout_through : (index room : List ℕ) → outcome_through s index room ≡ record { verdict = refused n p; room = room }
  unfolding outcome_through finding_through checks_through report ◌>>◌
  layout_through index room = rw (fault_first (fault_before (case_checks (case_of s) (length room)) (fault_before (as_built_checks (log_of s) index) in_admitted)))

-- A first part at 36 is not where it is due.
old_part : (s : List ℕ) → offset s formula_part ≡ 36 → faulty_part s 0 ≡ true
unfolding faulty_part is_misplaced due_offset
old_part s e = rw e

-- So 1 refuses, or 2 does, at the first part.
old_fault : (s : List ℕ) → offset s formula_part ≡ 36 → (n : ℕ) × ((n ≡ 1) ⊎ (n ≡ 2)) × FirstFault (layout_checks s) n 0
unfolding layout_checks
old_fault s e = go (bad_length s) refl
  where
    go : (b : Bool) → bad_length s ≡ b → (n : ℕ) × ((n ≡ 1) ⊎ (n ≡ 2)) × FirstFault (layout_checks s) n 0
    go true long = let f : Fails (single 1 0 (bad_length s)) 1 0 = (refl, refl, long) in (1, inl refl, here f)
    go false long =
        let h : Holds (single 1 0 (bad_length s)) = long in
        let f : Fails (each 2 8 (faulty_part s)) 2 0 = (refl, (omega arith, old_part s e, λ q lt. absurd (omega arith))) in
        (2, inr refl, later h (here f))

pub old_is_refused : OldIsRefused
old_is_refused s e =
    let w = old_fault s e in (
      w.0,
      record {
        one_or_two = w.1;
        checked = layout_checked s w.2;
        admitted = layout_admitted s w.2;
        built = layout_built s w.2;
        through = layout_through s w.2;
      },
    )
