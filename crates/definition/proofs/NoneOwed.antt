-- Demand 2, on "none owed": it is the verdict exactly of an admitted file without steps for which nothing is owed and the duties are kept. By the order of all checks.
-- Assumes nothing.
use Prim.Native.Nat.{ℕ}
use mathlib.Core.Path.{◌≡◌, refl, sym, ◌∙◌}
use mathlib.Core.Option.{Option, none, some}
use mathlib.Core.List.{List}
use native.Mathlib.Omega.{arith}
use lib.ListN.{length}
use Rattle.definition.proofs.CheckLaws.{all_hold, hold_all, both_hold, hold_both}
use Rattle.definition.proofs.ConclusionLaws as conclusions
use Rattle.definition.proofs.DutyLaws.{holding_kept, kept_holding}
use Rattle.definition.proofs.Findings.{finding_holds, holds_finding, reported_none}
use Rattle.definition.proofs.RefusalTable.{no_steps}
use Rattle.definition.specs.04-Checks.{AllHold, accepts}
use Rattle.definition.specs.13-Formulas.{Formula}
use Rattle.definition.specs.17-Case.{Case, case_of}
use Rattle.definition.specs.18-Admission.{admission_checks, admission}
use Rattle.definition.specs.21-Rules.{owed}
use Rattle.definition.specs.23-Duties.{duty_checks}
use Rattle.definition.specs.31-Outcome.{nothing_owed, owes, is_owed, has_steps, no_proof, needless_proof, owing_checks, checks_if_owed, case_checks, all_checks, found_if_owed, found, finding, report, outcome}
use Rattle.definition.specs.44-Demands.{OwesNothing, NoneOwedExactly}

found_nothing : (o : Option Formula) (c : Case) → found_if_owed o c ≡ nothing_owed → o ≡ none
unfolding found_if_owed
found_nothing none c e = refl
found_nothing (some f) c e = absurd (let z : ◌≡◌ {A = ℕ} 0 1 = cc in omega arith)

-- Nothing is owed, and there are no steps: exactly so the test finds, and checks 10 and 11 hold.
module _ (c : Case) where
  pub owes_nothing : owes c ≡ none → c.steps ≡ 0 → OwesNothing c
  unfolding owes
  owes_nothing nothing steps = (steps, λ f w. conclusions.none_some (sym nothing ∙ conclusions.owing w))

  pub nobody_owes : OwesNothing c → owes c ≡ none
  unfolding owes
  nobody_owes n = go (owed c.agent c.action) refl
    where
      go : (o : Option Formula) → owed c.agent c.action ≡ o → owed c.agent c.action ≡ none
      go none e = e
      go (some f) e = absurd (n.1 f ((conclusions.drawn _ _ _).1 e))

  pub nothing_owing : OwesNothing c → AllHold (owing_checks c)
  unfolding owing_checks no_proof needless_proof is_owed has_steps
  nothing_owing n = (rw (nobody_owes n), (rw (nobody_owes n, n.0), tt))

nothing_found : (s : List ℕ) (m : ℕ) → admission s ≡ accepts tt → OwesNothing (case_of s) → AllHold (duty_checks (case_of s)) → finding s m ≡ accepts nothing_owed
unfolding admission all_checks case_checks checks_if_owed found found_if_owed
nothing_found s m a n d =
    let c = case_of s in
    let e = nobody_owes c n in
    let rest : AllHold (case_checks c m) = hold_both (owing_checks c) (checks_if_owed (owes c) c m) (nothing_owing c n) (rw e d) in
    holds_finding s m (hold_both (admission_checks s) (case_checks c m) (all_hold (admission_checks s) a) rest) ∙ rw e

pub none_owed_exactly : NoneOwedExactly
unfolding outcome report found all_checks case_checks checks_if_owed admission
none_owed_exactly s room = (
  λ e.
      let c = case_of s in
      let h = finding_holds s (length room) (reported_none (finding s (length room)) room e) in
      let nothing = found_nothing (owes c) c h.1 in
      let a = both_hold (admission_checks s) (case_checks c (length room)) h.0 in
      let o = both_hold (owing_checks c) (checks_if_owed (owes c) c (length room)) a.1 in
      let duties : AllHold (duty_checks c) = rw nothing at o.1 in
      (hold_all (admission_checks s) a.0, owes_nothing c nothing (no_steps c nothing o.0), holding_kept c duties),
  λ w. rw (nothing_found s (length room) w.0 w.1 (kept_holding (case_of s) w.2)),
)
