-- Demand 2: a case passes just if it is admitted, something is owed, there is an account of it, and the room has the entries needed. Steps without fault make the trees, and the trees' steps are without fault.
-- Assumes nothing.
use Prim.Native.Nat.{ℕ, ◌+◌, ◌-◌, ◌≤◌, ◌<◌}
use mathlib.Core.Path.{◌≡◌, refl, sym, ap, ◌∙◌}
use mathlib.Core.Logic.{⊎_elim}
use mathlib.Core.Option.{some}
use mathlib.Core.List.{List}
use native.Mathlib.Omega.{arith}
use lib.ListN.{length}
use Rattle.definition.proofs.AdmissionLaws.{admitted_parted}
use Rattle.definition.proofs.Complete.{Grown, grown, tests_at}
use Rattle.definition.proofs.ConclusionLaws as conclusions
use Rattle.definition.proofs.DutyLaws.{holding_kept, kept_holding}
use Rattle.definition.proofs.PartLaws.{part_few, log_rows}
use Rattle.definition.proofs.Findings.{reported_pass}
use Rattle.definition.proofs.Passes.{Proves, Proved, entries, finding_proved, proved_passes, proved_short, short_proved}
use Rattle.definition.proofs.RefusalTable.{refused_by_table}
use Rattle.definition.proofs.CitedLists.{needs_entries, needs_only}
use Rattle.definition.proofs.PremiseLaws.{share_same}
use Rattle.definition.proofs.RuleLaws.{Small}
use Rattle.definition.proofs.Sound.{tree, reaches}
use Rattle.definition.proofs.StateMarks.{used_before, before_used, cited_before, rests_at, open_at, rests_at_lem, opens_at, joined_same}
use Rattle.definition.proofs.StepLaws.{Local, fine_parts, parts_fine, spans_adjoin, adjoin_spans}
use Rattle.definition.proofs.Tautologies.{tautology_same}
use Rattle.definition.proofs.Tests.{not_both, never_true}
use Rattle.definition.specs.03-Lists.{Among}
use Rattle.definition.specs.04-Checks.{accepts}
use Rattle.definition.specs.11-Layout.{most_records, condition_part, log_part, obligation_part, label_part}
use Rattle.definition.specs.13-Formulas.{Formula}
use Rattle.definition.specs.17-Case.{Case, case_of}
use Rattle.definition.specs.18-Admission.{admission}
use Rattle.definition.specs.22-Steps.{Labels, rests_in, opens_in, start_state, next, premises_of, is_an_obligation, state_at}
use Rattle.definition.specs.31-Outcome.{owes, last_step, discharged_list, cited_list, final_state, finding, report, outcome}
use Rattle.definition.specs.42-Account.{Account}
use Rattle.definition.specs.44-Demands.{StepsHold, Accounted, Justified, PassesExactly, RefusedForRoom}

last_step_lem : (c : Case) → 0 < c.steps → last_step c + 1 ≡ c.steps
unfolding last_step
last_step_lem c h = omega arith

-- an account from steps without fault
proves_account : (c : Case) (f : Formula) → Proves c f → Account c f
unfolding final_state last_step
proves_account c f p =
    let last = last_step c in
    let is : last + 1 ≡ c.steps = last_step_lem c p.some_step in
    let inside : last < c.steps = omega arith in
    let t = tree c c.steps (omega arith) p.fine c.steps last inside inside in
    record {
      some_step = p.some_step;
      spans = spans_adjoin c (λ k lt. (fine_parts c k (state_at c k) (p.fine k lt)).span);
      opens = open_at c last;
      spent = t.spent;
      steps = t.steps;
      proof = rw p.last_is at t.proof;
      none_open = λ l lt o. not_both o (ap (λ (L : Labels). L l) (sym (opens_at c c.steps last inside)) ∙ p.none_open l lt);
      all_used = λ k lt. t.whole k (reaches c c.steps (omega arith) p.fine last is p.used last k (omega arith) lt);
    }

-- steps without fault from an account
module _ (c : Case) (f : Formula) (small : Small c) (a : Account c f) where
  whole : Grown c (c.steps - 1) f a.opens a.spent a.steps
  whole = grown c small a.proof

  rests_same : (k : ℕ) → k < c.steps → (p : ℕ) → Among p (premises_of c k) → rests_at c p ≡ rests_in (state_at c k) p
  rests_same k lt p m = sym (rests_at_lem c k p ((whole.region.sure k (a.all_used k lt)).earlier p m))

  opens_same : (k : ℕ) → k < c.steps → (p : ℕ) → Among p (premises_of c k) → open_at c p ≡ opens_in (state_at c k) p
  opens_same k lt p m = ap (λ r. r.opens) (rests_same k lt p m)

  local_now : (k : ℕ) → k < c.steps → Local c (rests_in (state_at c k)) k
  local_now k lt =
      let l = (whole.region.sure k (a.all_used k lt)).local in
      record {
        number = l.number;
        policy = l.policy;
        closed = l.closed;
        tests = tests_at refl refl refl refl (sym (joined_same (open_at c) (opens_in (state_at c k)) (premises_of c k) (opens_same k lt))) l.tests;
        split = share_same c (open_at c) (opens_in (state_at c k)) (premises_of c k) (opens_same k lt) l.split;
        refines = rw (tautology_same c (rests_at c) (rests_in (state_at c k)) k (rests_same k lt)) at l.refines;
      }

  account_fine : StepsHold c c.steps
  unfolding start_state next
  account_fine k lt =
      let s = whole.region.sure k (a.all_used k lt) in
      parts_fine c k (state_at c k)
      (record {
        local = local_now k lt;
        usable = record {
          earlier = s.earlier;
          unused =
              λ p m.
              never_true _
              (λ u.
              let b = used_before c k p u in
              let is = whole.region.one_parent b.0 k p (a.all_used b.0 (omega arith)) (a.all_used k lt) b.2 m in
              omega arith);
          distinct = s.distinct;
        };
        span = adjoin_spans c a.spans k lt;
        once =
            λ n m d.
            let b = cited_before c (λ s. s.discharged) is_an_obligation (λ x. refl) (λ i s. refl) k (c.step k).argument d in
            let is = whole.region.once b.0 k (c.step k).argument (a.all_used b.0 (omega arith)) (a.all_used k lt) (b.2, b.3) (n, refl) m in
            omega arith;
      })

  account_proves : Proves c f
  unfolding final_state last_step
  account_proves =
      let last = last_step c in
      let is : last + 1 ≡ c.steps = last_step_lem c a.some_step in
      record {
        some_step = a.some_step;
        fine = account_fine;
        used =
            λ j lt.
            ⊎_elim (λ e. absurd (omega arith)) (λ y. before_used c c.steps y.0 j (whole.region.sure y.0 y.1).inside y.2)
            (whole.parent j (a.all_used j (omega arith)));
        none_open =
            λ l lt.
            never_true _
            (λ o. a.none_open l lt (ap (λ (L : Labels). L l) (whole.opens_is ∙ sym (opens_at c c.steps last (omega arith))) ∙ o));
        last_is = whole.formula_is;
      }

pub case_small : (s : List ℕ) → admission s ≡ accepts tt → Small (case_of s)
unfolding case_of most_records
case_small s e =
    let f = admitted_parted s e in
    record {
      conditions = omega (arith, part_few s f condition_part (omega arith));
      rows = omega (arith, part_few s f log_part (omega arith), log_rows s f);
      obligations = omega (arith, part_few s f obligation_part (omega arith));
      labels = omega (arith, part_few s f label_part (omega arith));
    }

-- Something is owed and accounted for exactly if the steps prove it, without fault.
module _ (c : Case) where
  pub proves_accounted : {f : Formula} → owes c ≡ some f → Proves c f → Accounted c
  unfolding owes
  proves_accounted {f} owed p = (f, (conclusions.drawn _ _ _).1 owed, proves_account c f p)

  pub accounted_proves : Small c → Accounted c → (f : Formula) × (owes c ≡ some f) × Proves c f
  unfolding owes
  accounted_proves small a = (a.0, conclusions.owing a.1, account_proves c a.0 small a.2)

-- A file is justified exactly if something is owed and no check but 23 refuses it.
proved_justified : (s : List ℕ) → Proved s → Justified s
proved_justified s p = (p.admitted, proves_accounted (case_of s) p.owed p.proves, holding_kept (case_of s) p.duties)

justified_proved : (s : List ℕ) → Justified s → Proved s
justified_proved s j =
    let w = accounted_proves (case_of s) (case_small s j.0) j.1 in
    record { admitted = j.0; owed_is = w.0; owed = w.1; proves = w.2; duties = kept_holding (case_of s) j.2 }

pub passes_exactly : PassesExactly
unfolding outcome report
passes_exactly s room = (
  λ p.
      let r = reported_pass (finding s (length room)) room p.0 p.1 p.2 in
      let w = finding_proved s (length room) r.0 r.1 r.2 in
      (proved_justified s w.0, entries s, needs_entries w.0, w.1),
  λ j.
      let w = justified_proved s j.0 in
      let enough : entries s ≤ length room = omega (arith, needs_only w j.2, j.3) in
      (length (discharged_list (case_of s) (final_state (case_of s))), length (cited_list (case_of s) (final_state (case_of s))), rw (proved_passes s w (length room) enough)),
)

pub refused_for_room : RefusedForRoom
unfolding outcome report
refused_for_room s room n = (
  λ e.
      let w = short_proved s (length room) n ((refused_by_table s room 23 n).0 e) in
      (proved_justified s w.0, rw w.1 at (needs_entries w.0), w.2),
  λ j.
      let w = justified_proved s j.0 in
      let is : entries s ≡ n = needs_only w j.1 in
      rw (proved_short s w (length room) (omega (arith, is, j.2)), is),
)
