-- The place of check 27: the first fault of a step has this number only where an owner step's formula holds a data variable, and then its book is admitted. Assumes nothing.
use Prim.Native.Nat.{ℕ}
use mathlib.Core.Path.{◌≡◌, refl}
use mathlib.Core.Bool.{true, false}
use mathlib.Core.Logic.{⊎_elim}
use mathlib.Core.List.{List}
use native.Mathlib.Omega.{arith}
use lib.Dec.{eqb}
use borrow.Author.Tests.{eqb-true}
use Rattle.definition.proofs.AdmissionLaws.{admitted_parted}
use Rattle.definition.proofs.CheckLaws.{by_number, hold_all, fault_either, other_number}
use Rattle.definition.proofs.PartLaws.{book_few}
use Rattle.definition.proofs.RefusalTable.{step_refused}
use Rattle.definition.proofs.StepLaws.{well_shaped}
use Rattle.definition.proofs.StrayLaws.{one_stray, stray_found}
use Rattle.definition.proofs.Tests.{and_true}
use Rattle.definition.proofs.Trees.{number_inside}
use Rattle.definition.specs.04-Checks.{accepts, AllHold, FirstFault, here, later}
use Rattle.definition.specs.11-Layout.{formula_part, part, layout_checks}
use Rattle.definition.specs.13-Formulas.{is_policy}
use Rattle.definition.specs.14-Book.{tree_in, book_checks}
use Rattle.definition.specs.15-Records.{formulas, step_formula, log_checks, record_checks}
use Rattle.definition.specs.17-Case.{Case, case_of}
use Rattle.definition.specs.18-Admission.{checks_to_log, admission_checks, admission}
use Rattle.definition.specs.22-Steps.{State, misshapen, stray_variable, citation_checks, misfit_checks, fit_checks, shape_checks, above_checks, use_checks, step_checks, state_at}
use Rattle.definition.specs.23-Duties.{duty_checks}
use Rattle.definition.specs.31-Outcome.{closing_checks, room_checks, owing_checks, end_checks}
use Rattle.definition.specs.41-Occurrences.{GoodRow}
use Rattle.definition.specs.46-Requests.{RefusedAt, StrayTold, TellsStray, PlaceByBook}

-- The first fault of a step has number 27.
record OwnerFault (c : Case) (k p : ℕ) : Type 0 where
  shaped : misshapen c k ≡ false
  stray : stray_variable c k ≡ true
  place : (c.step k).stray ≡ p

owner_fault : (c : Case) (k p : ℕ) (t : State) → FirstFault (step_checks c k t) 27 p → OwnerFault c k p
unfolding step_checks shape_checks citation_checks above_checks use_checks fit_checks misfit_checks
owner_fault c k p t f =
    ⊎_elim (λ g. other_number (shape_checks c k t) refl g) (λ g. go g.0.0 g.1) (fault_either (shape_checks c k t) (use_checks c k t) f)
  where
    fit : misshapen c k ≡ false → FirstFault (fit_checks c k) 27 p → OwnerFault c k p
    fit e (here x) = record { shaped = e; stray = x.2; place = x.1 }
    fit e (later h g) = other_number (misfit_checks c k) refl g

    go : misshapen c k ≡ false → FirstFault (use_checks c k t) 27 p → OwnerFault c k p
    go e (here x) = absurd (omega (arith, x.0))
    go e (later h g) = ⊎_elim (λ x. fit e x) (λ x. other_number (above_checks c k t) refl x.1) (fault_either (fit_checks c k) (above_checks c k t) g)

module _ (s : List ℕ) (a : AllHold (admission_checks s)) where
  admitted : admission s ≡ accepts tt
  unfolding admission
  admitted = hold_all (admission_checks s) a

  -- the number of a policy has no bad row up to it
  policy_good : (n : ℕ) → is_policy (tree_in (formulas s) n) ≡ true → GoodRow (part s formula_part) n
  unfolding checks_to_log admission_checks layout_checks book_checks formulas is_policy
  policy_good n e =
      let inside = number_inside (part s formula_part) n is_policy refl e in
      record { good = λ j le. (by_number 3 (admission_checks s) a).0 j (omega arith); inside = inside; few = omega (arith, book_few s (admitted_parted s admitted)) }

  owner_told : (k p : ℕ) → RefusedAt s k 27 p → StrayTold s p
  unfolding stray_variable case_of formulas
  owner_told k p r =
      let f = owner_fault (case_of s) k p (state_at (case_of s) k) r.fault in
      let w = and_true (eqb ((case_of s).step k).rule 5) _ f.stray in
      record { step = k; at = r; owner = eqb-true _ 5 w.0; row = rw (← f.place) (stray_found (policy_good (step_formula s k) (well_shaped (case_of s) k f.shaped).policy) w.1) }

pub tells_stray : TellsStray
unfolding checks_to_log admission_checks layout_checks book_checks log_checks record_checks owing_checks closing_checks duty_checks room_checks end_checks
tells_stray s room p e = let r = step_refused s room 27 p refl refl refl refl e in owner_told s r.0 r.1 p r.2

pub place_by_book : PlaceByBook
place_by_book s t p q a b same number = one_stray a.row (rw (← same, ← number) at b.row)
