-- Demand 1, by groups: the first failing check is in a group before which all groups hold, and at a step before which all steps do. By taking the order of all checks apart.
-- Assumes nothing.
use Prim.Native.Nat.{ℕ, zero, suc, ◌+◌, ◌≤◌, ◌<◌}
use mathlib.Core.Path.{◌≡◌, refl}
use mathlib.Core.Bool.{Bool, true, false}
use mathlib.Core.Logic.{◌⊎◌, inl, inr, ⊎_elim}
use mathlib.Core.Option.{Option, none, some}
use mathlib.Core.List.{List, [], ◌∷◌}
use native.Mathlib.Nat.{eq-or-lt_of_le}
use native.Mathlib.Omega.{arith}
use lib.ListN.{length}
use lib.Dec.{eqb}
use borrow.Author.Tests.{ltb-true, ltb-false, eqb-true, eq-eqb, not-false}
use Rattle.definition.proofs.CheckLaws.{by_number, fault_either, fault_before, fault_behind, has_number, other_number}
use Rattle.definition.proofs.Tests.{not_both}
use Rattle.definition.proofs.Findings.{first_is_told}
use Rattle.definition.proofs.States.{state_next, Fine, fine_steps, steps_fine}
use Rattle.definition.specs.04-Checks.{Check, single, each, AllHold, FirstFault, here, later}
use Rattle.definition.specs.13-Formulas.{Formula}
use Rattle.definition.specs.17-Case.{Case, case_of}
use Rattle.definition.specs.18-Admission.{admission_checks}
use Rattle.definition.specs.22-Steps.{start_state, next, citation_checks, misfit_checks, fit_checks, shape_checks, above_checks, use_checks, step_checks, checks_of_steps, state_at}
use Rattle.definition.specs.23-Duties.{duty_checks}
use Rattle.definition.specs.31-Outcome.{owes, is_owed, has_steps, no_proof, needless_proof, owing_checks, end_checks, final_state, proof_checks, checks_if_owed, case_checks, all_checks, refused, outcome}
use Rattle.definition.specs.44-Demands.{InTable, in_admission, in_owing, in_step, in_end, in_duties, RefusedByTable, StepIsPlace}
use Rattle.definition.specs.46-Requests.{RefusedAt}

-- The first fault of the steps from i on, of which `left` are left, is at one of them, and the steps before it are without fault.
record AtStep (c : Case) (left i n p : ℕ) : Type 0 where
  step : ℕ
  from : i ≤ step
  to : step < i + left
  before : (j : ℕ) → i ≤ j → j < step → Fine c j (state_at c j)
  fault : FirstFault (step_checks c step (state_at c step)) n p

module _ (c : Case) where
  steps_fault : (left i : ℕ) {n p : ℕ} → FirstFault (checks_of_steps c left i (state_at c i)) n p → AtStep c left i n p
  unfolding checks_of_steps
  steps_fault zero i f = other_number [] refl f
  steps_fault (suc left) i {n} {p} f =
      ⊎_elim
      (λ g. record { step = i; from = omega arith; to = omega arith; before = λ j le lt. absurd (omega arith); fault = g })
      (λ g.
      let r = steps_fault left (i + 1) (rw (state_next c i) g.1) in
      record {
        step = r.step;
        from = omega (arith, r.from);
        to = omega (arith, r.to);
        before = λ j le lt. ⊎_elim (λ q. rw (← q) g.0) (λ l. r.before j (omega arith) lt) (eq-or-lt_of_le le);
        fault = r.fault;
      })
      (fault_either (step_checks c i (state_at c i)) (checks_of_steps c left (i + 1) (next c i (state_at c i))) f)

  fault_steps : (left i k : ℕ) {n p : ℕ} → i ≤ k → k < i + left → ((j : ℕ) → i ≤ j → j < k → Fine c j (state_at c j)) →
      FirstFault (step_checks c k (state_at c k)) n p → FirstFault (checks_of_steps c left i (state_at c i)) n p
  unfolding checks_of_steps
  fault_steps zero i k le lt fine f = absurd (omega arith)
  fault_steps (suc left) i k {n} {p} le lt fine f =
      ⊎_elim
      (λ q. fault_before (checks_of_steps c left (i + 1) (next c i (state_at c i))) (let g : FirstFault (step_checks c i (state_at c i)) n p = rw q f in g))
      (λ l.
      fault_behind (step_checks c i (state_at c i)) (fine i (omega arith) l)
      (rw (← state_next c i) (fault_steps left (i + 1) k (omega arith) (omega arith) (λ j from to. fine j (omega arith) to) f)))
      (eq-or-lt_of_le le)

-- Where checks 10 and 11 hold, there are steps just if something is owed.
pub steps_of_owed : (c : Case) → AllHold (owing_checks c) → {f : Formula} → owes c ≡ some f → 0 < c.steps
unfolding owing_checks no_proof is_owed has_steps
steps_of_owed c h owed = ltb-true 0 c.steps (not-false _ (rw owed at (by_number 10 (owing_checks c) h).0))

pub owed_of_steps : (c : Case) → AllHold (owing_checks c) → 0 < c.steps → (f : Formula) × (owes c ≡ some f)
unfolding owing_checks needless_proof is_owed has_steps
owed_of_steps c h lt = go (owes c) refl
  where
    go : (o : Option Formula) → owes c ≡ o → (f : Formula) × (owes c ≡ some f)
    go none e = let l = ltb-false 0 c.steps (rw e at (by_number 11 (owing_checks c) h).0) in absurd (omega (arith, l))
    go (some f) e = (f, e)

pub no_steps : (c : Case) → owes c ≡ none → AllHold (owing_checks c) → c.steps ≡ 0
unfolding owing_checks needless_proof is_owed has_steps
no_steps c e h = let l = ltb-false 0 c.steps (rw e at (by_number 11 (owing_checks c) h).0) in omega (arith, l)

pub none_owed_of : (c : Case) → AllHold (owing_checks c) → c.steps ≡ 0 → owes c ≡ none
none_owed_of c h e = go (owes c) refl
  where
    go : (o : Option Formula) → owes c ≡ o → owes c ≡ none
    go none n = n
    go (some f) n = absurd (omega (arith, steps_of_owed c h n))

module _ (s : List ℕ) (room n p : ℕ) where
  abbrev c : Case
  c = case_of s

  in_proof : 0 < c.steps → AllHold (admission_checks s) → AllHold (owing_checks c) → FirstFault (proof_checks c room) n p → InTable s room n p
  unfolding proof_checks state_at
  in_proof lt a o f =
      ⊎_elim
      (λ g. let r = steps_fault c c.steps 0 g in in_step a o (omega (arith, r.to)) (λ j lt. r.before j (omega arith) lt) r.fault)
      (λ g. in_end a o lt (λ j l. steps_fine c c.steps 0 g.0 j (omega arith) (omega arith)) g.1)
      (fault_either (checks_of_steps c c.steps 0 start_state) (end_checks c (final_state c) room) f)

  in_owed : (o : Option Formula) → owes c ≡ o → AllHold (admission_checks s) → AllHold (owing_checks c) → FirstFault (checks_if_owed o c room) n p → InTable s room n p
  unfolding checks_if_owed
  in_owed none e a h f = in_duties a h (no_steps c e h) f
  in_owed (some q) e a h f = in_proof (steps_of_owed c h e) a h f

  in_case : AllHold (admission_checks s) → FirstFault (case_checks c room) n p → InTable s room n p
  unfolding case_checks
  in_case a f = ⊎_elim (λ g. in_owing a g) (λ g. in_owed (owes c) refl a g.0 g.1) (fault_either (owing_checks c) (checks_if_owed (owes c) c room) f)

  fault_in_table : FirstFault (all_checks s room) n p → InTable s room n p
  unfolding all_checks
  fault_in_table f = ⊎_elim (λ g. in_admission g) (λ g. in_case g.0 g.1) (fault_either (admission_checks s) (case_checks c room) f)

  of_proof : AllHold (admission_checks s) → AllHold (owing_checks c) → 0 < c.steps → FirstFault (proof_checks c room) n p → FirstFault (all_checks s room) n p
  unfolding all_checks case_checks checks_if_owed
  of_proof a o lt f = fault_behind (admission_checks s) a (fault_behind (owing_checks c) o (rw (owed_of_steps c o lt).1 f))

  table_fault : InTable s room n p → FirstFault (all_checks s room) n p
  unfolding all_checks case_checks checks_if_owed proof_checks state_at
  table_fault (in_admission f) = fault_before (case_checks c room) f
  table_fault (in_owing a f) = fault_behind (admission_checks s) a (fault_before (checks_if_owed (owes c) c room) f)
  table_fault (in_step {k = k} a o lt before f) =
      of_proof a o (omega arith)
      (fault_before (end_checks c (final_state c) room) (fault_steps c c.steps 0 k (omega arith) (omega arith) (λ j from to. before j to) f))
  table_fault (in_end a o lt all f) =
      of_proof a o lt (fault_behind (checks_of_steps c c.steps 0 start_state) (fine_steps c c.steps 0 (λ k from to. all k (omega arith))) f)
  table_fault (in_duties a o e f) = fault_behind (admission_checks s) a (fault_behind (owing_checks c) o (rw (none_owed_of c o e) f))

pub refused_by_table : RefusedByTable
refused_by_table s room n p = (
  λ e. fault_in_table s (length room) n p ((first_is_told s room n p).0 e),
  λ t. (first_is_told s room n p).1 (table_fault s (length room) n p t),
)

-- A number that only steps have is refused at a step, in a file that is admitted.
pub step_refused :
    (s room : List ℕ) (n p : ℕ) → has_number n (admission_checks s) ≡ false → has_number n (owing_checks (case_of s)) ≡ false →
    has_number n (end_checks (case_of s) (final_state (case_of s)) (length room)) ≡ false → has_number n (duty_checks (case_of s)) ≡ false → (outcome s room).verdict ≡ refused n p →
    AllHold (admission_checks s) × (k : ℕ) × RefusedAt s k n p
step_refused s room n p a o e d is = go ((refused_by_table s room n p).0 is)
  where
    go : InTable s (length room) n p → AllHold (admission_checks s) × (k : ℕ) × RefusedAt s k n p
    go (in_admission f) = other_number (admission_checks s) a f
    go (in_owing h f) = other_number (owing_checks (case_of s)) o f
    go (in_step {k = k} h g lt before f) = (h, k, record { there = lt; before = before; fault = f })
    go (in_end h g lt all f) = other_number (end_checks (case_of s) (final_state (case_of s)) (length room)) e f
    go (in_duties h g lt f) = other_number (duty_checks (case_of s)) d f

-- Each check of the list has the place k, but for 27, which has r.
abbrev PlaceOf : (stray : Bool) → (k r p : ℕ) → Type 0
PlaceOf true k r p = p ≡ r
PlaceOf false k r p = p ≡ k

abbrev Placed : (k r : ℕ) → List Check → Type 0
Placed k r [] = Unit {0}
Placed k r (single n p fault ∷ cs) = PlaceOf (eqb n 27) k r p × Placed k r cs
Placed k r (each n count fault ∷ cs) = ⊥

module _ (k r n p : ℕ) where
  abbrev AtPlace : Type 0
  AtPlace = ((n ≡ 27) × (p ≡ r)) ⊎ ((n ≡ 27 → ⊥) × (p ≡ k))

  at_place : (b : Bool) → eqb n 27 ≡ b → PlaceOf b k r p → AtPlace
  at_place true e h = inl (eqb-true n 27 e, h)
  at_place false e h = inr (λ same. not_both (eq-eqb n 27 same) e, h)

  placed_fault : {cs : List Check} → Placed k r cs → FirstFault cs n p → AtPlace
  placed_fault a (here {c = single m q fault} f) = at_place (eqb n 27) refl (rw (f.0, f.1) at a.0)
  placed_fault a (here {c = each m count fault} f) = absurd a
  placed_fault a (later {c = single m q fault} h f) = placed_fault a.1 f
  placed_fault a (later {c = each m count fault} h f) = absurd a

pub step_is_place : StepIsPlace
unfolding step_checks shape_checks above_checks use_checks citation_checks misfit_checks fit_checks
step_is_place c k n p t = placed_fault k (c.step k).stray n p (search)
