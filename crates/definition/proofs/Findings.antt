-- What the order of all checks comes to: it accepts just if all hold, and refuses just with the first that fails. Assumes nothing.
use Prim.Native.Nat.{ℕ}
use mathlib.Core.Path.{◌≡◌, refl, ap}
use mathlib.Core.Logic.{⊎_elim}
use mathlib.Core.List.{List}
use native.Mathlib.Omega.{arith}
use lib.ListN.{length}
use Rattle.definition.proofs.CheckLaws.{then_accepts, then_refuses, never_both, all_hold, hold_all, first_fault, fault_first}
use Rattle.definition.specs.04-Checks.{AllHold, FirstFault, Checked, accepts, refuses, ◌>>◌, in_order}
use Rattle.definition.specs.17-Case.{case_of}
use Rattle.definition.specs.31-Outcome.{passed, none_owed, refused, Finding, justified, nothing_owed, all_checks, found, finding, report, outcome}
use Rattle.definition.specs.44-Demands.{FirstIsTold}

accepted : {A : Type 0} {x y : A} → accepts x ≡ accepts y → x ≡ y
accepted e = cc

module _ (s : List ℕ) (m : ℕ) where
  pub finding_holds : {x : Finding} → finding s m ≡ accepts x → AllHold (all_checks s m) × (found (case_of s) ≡ x)
  unfolding finding
  finding_holds {x} e = let a = then_accepts (in_order (all_checks s m)) (accepts (found (case_of s))) x e in (all_hold (all_checks s m) a.0.1, accepted a.1)

  pub holds_finding : AllHold (all_checks s m) → finding s m ≡ accepts (found (case_of s))
  unfolding finding ◌>>◌
  holds_finding h = rw (hold_all (all_checks s m) h)

  pub finding_faults : (n p : ℕ) → finding s m ≡ refuses n p → FirstFault (all_checks s m) n p
  unfolding finding
  finding_faults n p e = ⊎_elim (first_fault (all_checks s m) n p) (λ w. absurd (never_both w.1)) (then_refuses (in_order (all_checks s m)) (accepts (found (case_of s))) n p e)

  pub fault_finding : {n p : ℕ} → FirstFault (all_checks s m) n p → finding s m ≡ refuses n p
  unfolding finding ◌>>◌
  fault_finding f = rw (fault_first f)

-- What a reported pass was, a reported "none owed", and a reported refusal.
pub reported_pass :
    (x : Checked Finding) (room : List ℕ) (d r : ℕ) → (report x room).verdict ≡ passed d r →
    (ds : List ℕ) × (rs : List ℕ) × (x ≡ accepts (justified ds rs)) × (length ds ≡ d) × (length rs ≡ r)
unfolding report
reported_pass (accepts (justified ds rs)) room d r e = (ds, rs, refl, cc, cc)
reported_pass (accepts nothing_owed) room d r e = absurd (let z : ◌≡◌ {A = ℕ} 0 1 = cc in omega arith)
reported_pass (refuses n p) room d r e = absurd (let z : ◌≡◌ {A = ℕ} 0 1 = cc in omega arith)

pub reported_none : (x : Checked Finding) (room : List ℕ) → (report x room).verdict ≡ none_owed → x ≡ accepts nothing_owed
unfolding report
reported_none (accepts (justified ds rs)) room e = absurd (let z : ◌≡◌ {A = ℕ} 0 1 = cc in omega arith)
reported_none (accepts nothing_owed) room e = refl
reported_none (refuses n p) room e = absurd (let z : ◌≡◌ {A = ℕ} 0 1 = cc in omega arith)

pub reported_refusal : (x : Checked Finding) (room : List ℕ) (n p : ℕ) → (report x room).verdict ≡ refused n p → x ≡ refuses n p
unfolding report
reported_refusal (accepts (justified ds rs)) room n p e = absurd (let z : ◌≡◌ {A = ℕ} 0 1 = cc in omega arith)
reported_refusal (accepts nothing_owed) room n p e = absurd (let z : ◌≡◌ {A = ℕ} 0 1 = cc in omega arith)
reported_refusal (refuses m q) room n p e = cc

-- A first fault is all of the outcome: the room stays.
pub fault_outcome : (s room : List ℕ) {n p : ℕ} → FirstFault (all_checks s (length room)) n p → outcome s room ≡ record { verdict = refused n p; room = room }
unfolding outcome report
fault_outcome s room f = rw (fault_finding s (length room) f)

pub first_is_told : FirstIsTold
unfolding outcome
first_is_told s room n p = (
  λ e. finding_faults s (length room) n p (reported_refusal (finding s (length room)) room n p e),
  λ f. ap (λ o. o.verdict) (fault_outcome s room f),
)
