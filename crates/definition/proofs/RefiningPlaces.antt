-- The place of check 28: the first fault of a step has this number only where the tree of its first premise, which the steps before it make, is no tautology. Assumes nothing.
use Prim.Native.Nat.{ℕ, ◌≤◌, ◌<◌}
use mathlib.Core.Path.{◌≡◌, refl, sym, subst, ◌∙◌}
use mathlib.Core.Bool.{true, false}
use mathlib.Core.Logic.{inl, ⊎_elim}
use mathlib.Core.List.{List, [], ◌∷◌}
use native.Mathlib.Omega.{arith}
use lib.Dec.{eqb}
use borrow.Author.Tests.{eqb-true}
use Rattle.definition.proofs.CheckLaws.{hold_all, fault_either, other_number}
use Rattle.definition.proofs.Complete.{grown}
use Rattle.definition.proofs.PassesExactly.{case_small}
use Rattle.definition.proofs.PremiseLaws.{premises_usable}
use Rattle.definition.proofs.RefusalTable.{step_refused}
use Rattle.definition.proofs.RuleLaws.{Small}
use Rattle.definition.proofs.Sound.{tree, handed_by}
use Rattle.definition.proofs.StateMarks.{rests_at, rests_at_lem}
use Rattle.definition.proofs.Tautologies.{tautology_same, no_tautology_of}
use Rattle.definition.proofs.Tests.{and_true, not_both}
use Rattle.definition.specs.03-Lists.{Among}
use Rattle.definition.specs.04-Checks.{FirstFault, here, later}
use Rattle.definition.specs.11-Layout.{layout_checks}
use Rattle.definition.specs.14-Book.{book_checks}
use Rattle.definition.specs.15-Records.{log_checks, record_checks}
use Rattle.definition.specs.17-Case.{Case, case_of}
use Rattle.definition.specs.18-Admission.{checks_to_log, admission_checks, admission}
use Rattle.definition.specs.22-Steps.{State, rests_in, used_in, premises_of, bad_premises, first_rests, no_tautology, citation_checks, misfit_checks, fit_checks, shape_checks, above_checks, use_checks, step_checks, state_at}
use Rattle.definition.specs.23-Duties.{duty_checks}
use Rattle.definition.specs.31-Outcome.{closing_checks, room_checks, owing_checks, end_checks}
use Rattle.definition.specs.46-Requests.{RefusedAt, RefiningTold, TellsRefining}

-- The first fault of a step has number 28.
record RefiningFault (c : Case) (k p : ℕ) (t : State) : Type 0 where
  taken : bad_premises (used_in t) k (premises_of c k) ≡ false
  fails : no_tautology c (rests_in t) k ≡ true
  place : k ≡ p

refining_fault : (c : Case) (k p : ℕ) (t : State) → FirstFault (step_checks c k t) 28 p → RefiningFault c k p t
unfolding step_checks shape_checks citation_checks above_checks use_checks fit_checks misfit_checks
refining_fault c k p t f =
    ⊎_elim (λ g. other_number (shape_checks c k t) refl g) (λ g. go g.0.1.0 g.1) (fault_either (shape_checks c k t) (use_checks c k t) f)
  where
    last : bad_premises (used_in t) k (premises_of c k) ≡ false → FirstFault (above_checks c k t) 28 p → RefiningFault c k p t
    last e (here x) = absurd (omega (arith, x.0))
    last e (later h (here x)) = record { taken = e; fails = x.2; place = x.1 }
    last e (later h (later i g)) = other_number [] refl g

    go : bad_premises (used_in t) k (premises_of c k) ≡ false → FirstFault (use_checks c k t) 28 p → RefiningFault c k p t
    go e (here x) = absurd (omega (arith, x.0))
    go e (later h g) = ⊎_elim (λ x. other_number (fit_checks c k) refl x) (λ x. last e x.1) (fault_either (fit_checks c k) (above_checks c k t) g)

module _ (s : List ℕ) (small : Small (case_of s)) (k : ℕ) (at : RefusedAt s k 28 k) where
  abbrev c : Case
  c = case_of s

  few : k ≤ c.steps
  few = omega (arith, at.there)

  refining_told : RefiningTold s k
  unfolding no_tautology first_rests
  refining_told =
      let f = refining_fault c k k (state_at c k) at.fault in
      let earlier : (p : ℕ) → Among p (premises_of c k) → p < k = (premises_usable (used_in (state_at c k)) k (premises_of c k) f.taken).earlier in
      let h = and_true (eqb (c.step k).rule 4) _ (sym (tautology_same c (rests_in (state_at c k)) (rests_at c) k (λ q m. rests_at_lem c k q (earlier q m))) ∙ f.fails) in
      go earlier (premises_of c k) refl (eqb-true _ 4 h.0) h.1
    where
      go : ((p : ℕ) → Among p (premises_of c k) → p < k) → (ps : List ℕ) → premises_of c k ≡ ps → (c.step k).rule ≡ 4 → first_rests c (rests_at c) (premises_of c k) ≡ true → RefiningTold s k
      go earlier [] none four fails = absurd (not_both fails (rw none))
      go earlier (p ∷ ps) are four fails =
          let below : p < k = earlier p (rw are (inl refl)) in
          let t = tree c k few at.before k p below below in
          record {
            at = at;
            refines = four;
            first = p;
            others = ps;
            premises_are = are;
            handed = handed_by c k few at.before t;
            proof = t.proof;
            no_tautology = no_tautology_of c (handed_by c k few at.before t) p ps (record { opens_is = refl; cited = (grown c small t.proof).cited }) (rw are at fails);
          }

pub tells_refining : TellsRefining
unfolding checks_to_log admission_checks layout_checks book_checks log_checks record_checks owing_checks closing_checks duty_checks room_checks end_checks admission
tells_refining s room k e =
    let r = step_refused s room 28 k refl refl refl refl e in
    let j = r.1 in
    let f = refining_fault (case_of s) j k (state_at (case_of s) j) r.2.fault in
    refining_told s (case_small s (hold_all (admission_checks s) r.0)) k (subst (λ (i : ℕ). RefusedAt s i 28 k) f.place r.2)
