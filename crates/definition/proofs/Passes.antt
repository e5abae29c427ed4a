-- What a pass takes: the file admitted, something owed, every step without fault, every check at the end held; and nothing more. By taking the order of all checks apart.
-- Assumes nothing.
use Prim.Native.Nat.{ℕ, ◌≤◌, ◌<◌}
use mathlib.Core.Path.{◌≡◌, refl, sym, ◌∙◌}
use mathlib.Core.Bool.{true, false}
use mathlib.Core.Option.{Option, none, some}
use mathlib.Core.Logic.{⊎_elim}
use mathlib.Core.List.{List, [], ◌++◌}
use native.Mathlib.Omega.{arith}
use borrow.Author.Tests.{ltb-true, ltb-false, lt-ltb, le-ltb, not-false}
use Rattle.definition.proofs.CheckLaws.{all_hold, hold_all, both_hold, hold_both, fault_either, fault_behind, other_number}
use Rattle.definition.proofs.Findings.{finding_holds, holds_finding, fault_finding}
use Rattle.definition.proofs.RefusalTable.{steps_of_owed, owed_of_steps}
use Rattle.definition.proofs.RuleLaws.{that_is}
use Rattle.definition.proofs.States.{steps_fine, fine_steps}
use Rattle.definition.proofs.TreeEquality.{same_refl}
use Rattle.definition.specs.04-Checks.{single, Fails, AllHold, FirstFault, here, later, accepts, refuses}
use Rattle.definition.specs.11-Layout.{layout_checks}
use Rattle.definition.specs.13-Formulas.{Formula}
use Rattle.definition.specs.14-Book.{book_checks}
use Rattle.definition.specs.15-Records.{log_checks, record_checks}
use Rattle.definition.specs.17-Case.{Case, case_of}
use Rattle.definition.specs.18-Admission.{checks_to_log, admission_checks, admission}
use Rattle.definition.specs.21-Rules.{is_that}
use Rattle.definition.specs.22-Steps.{opens_in, used_in, start_state, citation_checks, misfit_checks, fit_checks, shape_checks, above_checks, use_checks, step_checks, checks_of_steps, state_at}
use Rattle.definition.specs.23-Duties.{duty_checks}
use Rattle.definition.specs.31-Outcome.{justified, owes, is_owed, has_steps, no_proof, needless_proof, last_step, unused_step, open_label, wrong_end, discharged_list, cited_list, needed, short_room, owing_checks, closing_checks, room_checks, end_checks, final_state, proof_checks, checks_if_owed, case_checks, all_checks, found_if_owed, found, finding}
use Rattle.definition.specs.44-Demands.{StepsHold, InTable, in_admission, in_owing, in_step, in_end, in_duties}

-- a justification of f that no check finds fault with, whatever the room
pub record Proves (c : Case) (f : Formula) : Type 0 where
  pub some_step : 0 < c.steps
  pub fine : StepsHold c c.steps
  pub used : (j : ℕ) → j < last_step c → used_in (final_state c) j ≡ true
  pub none_open : (l : ℕ) → l < c.labels → opens_in (final_state c) (last_step c) l ≡ false
  pub last_is : (c.step (last_step c)).formula ≡ f

-- the file is admitted, f is owed, the justification proves it, and the checks of the duties hold
pub record Proved (s : List ℕ) : Type 0 where
  pub admitted : admission s ≡ accepts tt
  pub owed_is : Formula
  pub owed : owes (case_of s) ≡ some owed_is
  pub proves : Proves (case_of s) owed_is
  pub duties : AllHold (duty_checks (case_of s))

-- The entries that the two lists need.
unfoldable pub entries : List ℕ → ℕ
entries s = needed (case_of s) (final_state (case_of s))

-- Where f is owed, checks 20 to 22 make a proof of steps without fault.
module _ (c : Case) {f : Formula} (owed : owes c ≡ some f) where
  pub closing_proves : 0 < c.steps → StepsHold c c.steps → AllHold (closing_checks c (final_state c)) → Proves c f
  unfolding closing_checks unused_step open_label wrong_end
  closing_proves lt fine h =
      let l : some f ≡ some (c.step (last_step c)).formula = sym owed ∙ that_is _ (owes c) (not-false _ h.1.1.0) in
      record {
        some_step = lt;
        fine = fine;
        used = λ j below. not-false _ (h.0 j below);
        none_open = h.1.0;
        last_is = cc;
      }

  -- A proof makes them hold, and 10 and 11 too.
  module _ (p : Proves c f) where
    pub proves_owing : AllHold (owing_checks c)
    unfolding owing_checks no_proof needless_proof is_owed has_steps
    proves_owing = (rw (owed, lt-ltb 0 c.steps p.some_step), (rw owed, tt))

    last_right : wrong_end c ≡ false
    unfolding wrong_end is_that
    last_right = rw (owed, p.last_is, same_refl f)

    pub proves_closing : AllHold (closing_checks c (final_state c))
    unfolding closing_checks unused_step open_label
    proves_closing = (λ k lt. rw (p.used k lt), (p.none_open, (last_right, tt)))

module _ (s : List ℕ) where
  abbrev c : Case
  c = case_of s

  -- What stands before check 23.
  proved_by : {f : Formula} → AllHold (admission_checks s) → owes c ≡ some f → 0 < c.steps → StepsHold c c.steps → AllHold (closing_checks c (final_state c)) → AllHold (duty_checks c) → Proved s
  unfolding admission
  proved_by {f} a owed lt fine h d = record { admitted = hold_all (admission_checks s) a; owed_is = f; owed = owed; proves = closing_proves c owed lt fine h; duties = d }

  -- All checks held, and something was owed.
  held_proved : {f : Formula} (m : ℕ) → owes c ≡ some f → AllHold (all_checks s m) → Proved s × (entries s ≤ m)
  unfolding all_checks case_checks checks_if_owed proof_checks room_checks end_checks short_room entries state_at
  held_proved {f} m owed h =
      let a = both_hold (admission_checks s) (case_checks c m) h in
      let o = both_hold (owing_checks c) (checks_if_owed (owes c) c m) a.1 in
      let p : AllHold (proof_checks c m) = rw owed at o.1 in
      let e = both_hold (checks_of_steps c c.steps 0 start_state) (end_checks c (final_state c) m) p in
      let fine : StepsHold c c.steps = λ k lt. steps_fine c c.steps 0 e.0 k (omega arith) (omega arith) in
      let ends = both_hold (closing_checks c (final_state c) ++ duty_checks c) (room_checks c (final_state c) m) e.1 in
      let before = both_hold (closing_checks c (final_state c)) (duty_checks c) ends.0 in
      (proved_by a.0 owed (steps_of_owed c o.0 owed) fine before.0 before.1, ltb-false m _ ends.1.0)

  -- Check 23 was the first to fail.
  of_room : (m n : ℕ) → FirstFault (room_checks c (final_state c) m) 23 n → (entries s ≡ n) × (m < n)
  unfolding room_checks short_room entries
  of_room m n (here f) = (f.1, omega (arith, f.1, ltb-true m _ f.2))
  of_room m n (later h f) = other_number [] refl f

  pub short_proved : (m n : ℕ) → InTable s m 23 n → Proved s × (entries s ≡ n) × (m < n)
  unfolding checks_to_log admission_checks layout_checks book_checks log_checks record_checks owing_checks step_checks shape_checks above_checks use_checks citation_checks misfit_checks fit_checks closing_checks duty_checks end_checks
  short_proved m n (in_admission f) = other_number (admission_checks s) refl f
  short_proved m n (in_owing a f) = other_number (owing_checks c) refl f
  short_proved m n (in_step {k = k} a o lt before f) = other_number (step_checks c k (state_at c k)) refl f
  short_proved m n (in_end a o lt fine f) =
      ⊎_elim (λ g. other_number (closing_checks c (final_state c) ++ duty_checks c) refl g)
      (λ g.
      let before = both_hold (closing_checks c (final_state c)) (duty_checks c) g.0 in
      let r = of_room m n g.1 in
      (proved_by a (owed_of_steps c o lt).1 lt fine before.0 before.1, r.0, r.1))
      (fault_either (closing_checks c (final_state c) ++ duty_checks c) (room_checks c (final_state c) m) f)
  short_proved m n (in_duties a o e f) = other_number (duty_checks c) refl f

  -- What a proof leaves to check 23.
  module _ (p : Proved s) where
    before_end : AllHold (checks_of_steps c c.steps 0 start_state)
    unfolding state_at
    before_end = fine_steps c c.steps 0 (λ k from to. p.proves.fine k (omega arith))

    before_room : AllHold (closing_checks c (final_state c) ++ duty_checks c)
    before_room = hold_both (closing_checks c (final_state c)) (duty_checks c) (proves_closing c p.owed p.proves) p.duties

    pub proved_passes : (m : ℕ) → entries s ≤ m → finding s m ≡ accepts (justified (discharged_list c (final_state c)) (cited_list c (final_state c)))
    unfolding admission all_checks case_checks checks_if_owed proof_checks room_checks end_checks short_room entries found found_if_owed
    proved_passes m enough =
        let ends : AllHold (end_checks c (final_state c) m) = hold_both (closing_checks c (final_state c) ++ duty_checks c) (room_checks c (final_state c) m) before_room (le-ltb m (needed c (final_state c)) enough, tt) in
        let proof : AllHold (proof_checks c m) = hold_both (checks_of_steps c c.steps 0 start_state) (end_checks c (final_state c) m) before_end ends in
        let rest : AllHold (case_checks c m) = hold_both (owing_checks c) (checks_if_owed (owes c) c m) (proves_owing c p.owed p.proves) (rw p.owed proof) in
        holds_finding s m (hold_both (admission_checks s) (case_checks c m) (all_hold (admission_checks s) p.admitted) rest) ∙ rw p.owed

    pub proved_short : (m : ℕ) → m < entries s → finding s m ≡ refuses 23 (entries s)
    unfolding admission all_checks case_checks checks_if_owed proof_checks room_checks end_checks short_room entries
    proved_short m short =
        let fails : Fails (single 23 (needed c (final_state c)) (short_room c (final_state c) m)) 23 (entries s) = (refl, refl, lt-ltb m (needed c (final_state c)) short) in
        let ends : FirstFault (end_checks c (final_state c) m) 23 (entries s) = fault_behind (closing_checks c (final_state c) ++ duty_checks c) before_room (here fails) in
        let proof : FirstFault (proof_checks c m) 23 (entries s) = fault_behind (checks_of_steps c c.steps 0 start_state) before_end ends in
        fault_finding s m (fault_behind (admission_checks s) (all_hold (admission_checks s) p.admitted) (fault_behind (owing_checks c) (proves_owing c p.owed p.proves) (rw p.owed proof)))

-- Where the lists are found, something was owed, and they are those of the final state.
lists_owed :
    (o : Option Formula) (c : Case) {ds rs : List ℕ} → found_if_owed o c ≡ justified ds rs →
    (f : Formula) × (o ≡ some f) × (ds ≡ discharged_list c (final_state c)) × (rs ≡ cited_list c (final_state c))
unfolding found_if_owed
lists_owed none c e = absurd (let z : ◌≡◌ {A = ℕ} 0 1 = cc in omega arith)
lists_owed (some f) c e = (f, refl, cc, cc)

pub finding_proved :
    (s : List ℕ) (m : ℕ) (ds rs : List ℕ) → finding s m ≡ accepts (justified ds rs) →
    Proved s × (entries s ≤ m) × (ds ≡ discharged_list (case_of s) (final_state (case_of s))) × (rs ≡ cited_list (case_of s) (final_state (case_of s)))
unfolding found
finding_proved s m ds rs e =
    let h = finding_holds s m e in
    let l = lists_owed (owes (case_of s)) (case_of s) h.1 in
    let p = held_proved s m l.1 h.0 in
    (p.0, p.1, l.2, l.3)
