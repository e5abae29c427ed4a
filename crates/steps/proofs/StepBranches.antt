-- The checks of a step, by where the code stops, and the tables after it. Assumes nothing.
use Prim.Native.Nat.{ℕ, ◌<◌}
use Rattle.std.proofs.Common.{Ok, Err}
use mathlib.Core.Logic.{⊎_elim}
use mathlib.Core.Path.{◌≡◌, refl, sym, ap, ◌∙◌}
use mathlib.Core.Bool.{Bool, true, false, cond}
use mathlib.Core.List.{List, [], ◌∷◌}
use lib.ListN.{length}
use Rattle.definition.proofs.CheckLaws.{never_both, then_accepts, then_refuses, then_stops, then_goes_on, try_refuses, goes_on, skip_before, stop_before, all_hold, both_hold, hold_all, by_number}
use Rattle.definition.specs.02-Ranges.{listed, update}
use Rattle.definition.specs.04-Checks.{AllHold, accepts, single, try, in_order}
use Rattle.definition.specs.11-Layout.{step_part, count}
use Rattle.definition.specs.15-Records.{step_from, step_count, step_argument, premise_step}
use Rattle.definition.specs.17-Case.{Case, case_of}
use Rattle.definition.specs.21-Rules.{Names, Effect}
use Rattle.definition.specs.22-Steps.{State, rests_in, opens_in, used_in, rule_of, premises_of, misshapen, bad_premises, joined, together, rests_on, share, next, used_twice, not_fresh, citation_checks, shape_checks, use_checks, step_checks, with_rests, with_used}
use Rattle.case_parts.specs.ShapedSteps.{EarlierNumbered}
use Rattle.step_shape.specs.RuleLines.{shape_of, rule_shape}
use Rattle.case_parts.specs.ShapedSteps.{CitedEntry, ShapedStep, PremisesBelow}
use Rattle.tables.specs.Sets.{labels_of, rests_meant, marks, left_in, rests_of, used_of}
use Rattle.tables.specs.declared.rests.Resting.{Resting}
use Rattle.words.specs.Meanings.{run_meant}
use Rattle.words.proofs.CheckRuns.{checks_stop}
use Rattle.words.specs.declared.runs.Refusal.{Refusal}
use Rattle.step_shape.proofs.CitationLaws.{cited_entry}
use Rattle.step_shape.proofs.EarlierPremises.{premises_earlier, all_taken}
use Rattle.steps.specs.CitedEntries.{CitedMarked}
use Rattle.steps.specs.OpenLabels.{IsAbove, UsesIn, twice_used, in_open_labels, stale_term}
use Rattle.steps.specs.StepAnswers.{by_run, judged_meant, judged, JudgedAs, Stepped, touched, after_step}
use Rattle.step_shape.specs.TakenPremises.{Taken, takes}
use Rattle.steps.specs.WorkingTables.{state_of, Tables}
use Rattle.steps.specs.declared.step_tables.StepTables.{StepTables}
use Rattle.steps.specs.declared.uses.Above.{Above}

-- Checks 12 to 16, by the one that decides.
module _ (c : Case) (k : ℕ) (s : State) where
  shape_12 : (e : Refusal) → run_meant {A = Unit {0}} (Err e) ≡ try (single 12 k (misshapen c k)) → run_meant {A = Unit {0}} (Err e) ≡ in_order (shape_checks c k s)
  unfolding shape_checks
  shape_12 e bad = checks_stop e _ _ bad

  module _ (fine : misshapen c k ≡ false) where
    shape_13 :
        (e : Refusal) → run_meant {A = Unit {0}} (Err e) ≡ try (single 13 k (bad_premises (used_in s) k (premises_of c k))) →
        run_meant {A = Unit {0}} (Err e) ≡ in_order (shape_checks c k s)
    unfolding shape_checks
    shape_13 e bad = checks_stop e _ _ bad ∙ sym (goes_on _ _ fine)

    shape_cited : bad_premises (used_in s) k (premises_of c k) ≡ false → in_order (citation_checks c (rule_of c k).names (c.step k).argument k) ≡ in_order (shape_checks c k s)
    unfolding shape_checks
    shape_cited free = sym (skip_before (single 12 k (misshapen c k) ∷ single 13 k (bad_premises (used_in s) k (premises_of c k)) ∷ []) _ (fine, (free, tt)))

  -- Where one of them refuses, so does the step; where they all hold, the checks of the uses decide.
  shape_stops : (e : Refusal) → run_meant {A = Unit {0}} (Err e) ≡ in_order (shape_checks c k s) → run_meant {A = Unit {0}} (Err e) ≡ in_order (step_checks c k s)
  unfolding step_checks run_meant
  shape_stops e p = stop_before (shape_checks c k s) (use_checks c k s) p

  shape_passed : accepts tt ≡ in_order (shape_checks c k s) → in_order (use_checks c k s) ≡ in_order (step_checks c k s)
  unfolding step_checks
  shape_passed e = sym (skip_before (shape_checks c k s) (use_checks c k s) (all_hold (shape_checks c k s) (sym e)))

  -- The code's answer, from that of the run of checks, and back.
  told_stop : (e : Refusal) → run_meant {A = Unit {0}} (Err e) ≡ in_order (step_checks c k s) → judged_meant (Err e) ≡ judged c k s
  unfolding judged_meant judged run_meant
  told_stop e p = then_stops _ p

  told_rests : (r : Resting) → accepts tt ≡ in_order (step_checks c k s) → rests_meant r ≡ together (rests_in s) (premises_of c k) → judged_meant (Ok r) ≡ judged c k s
  unfolding judged_meant judged
  told_rests r p q = ap accepts q ∙ then_goes_on p

  stop_told : (e : Refusal) → judged_meant (Err e) ≡ judged c k s → run_meant {A = Unit {0}} (Err e) ≡ in_order (step_checks c k s)
  unfolding judged_meant judged run_meant
  stop_told e p = ⊎_elim sym (λ h. absurd (never_both h.1)) (then_refuses (in_order (step_checks c k s)) _ _ _ (sym p))

  rests_told : (r : Resting) → judged_meant (Ok r) ≡ judged c k s → (accepts tt ≡ in_order (step_checks c k s)) × (rests_meant r ≡ together (rests_in s) (premises_of c k))
  unfolding judged_meant judged
  rests_told r p =
      let h = then_accepts (in_order (step_checks c k s)) _ _ (sym p) in
      (sym h.0.1, cc)

-- Check 17, from what was found of the steps above.
pub twice_is :
    (c : Case) (k : ℕ) (l : List ℕ) (d : List Bool) (above : Above) (s : State) → UsesIn c k l d above s →
    twice_used c (shape_of (rule_of c k)) (c.step k).argument (marks d) (labels_of above.rests.opens.bits) above.shared
    ≡ used_twice c s (rule_of c k) (c.step k).argument (premises_of c k)
unfolding twice_used used_twice shape_of rule_shape
twice_is c k l d above s u = rw (← u.spent, ap (λ r. r.opens) u.rests_are, u.shared_is)

-- Check 19, in a state with these labels open above.
pub stale_is : (c : Case) (k : ℕ) (s : State) (labels : ℕ → Bool) → labels ≡ joined (opens_in s) (premises_of c k) → stale_term c k labels ≡ not_fresh c s k
unfolding stale_term not_fresh in_open_labels
stale_is c k s labels e = rw e

-- The answer to step k, by the check that refuses it.
module _ (s : List ℕ) (k : ℕ) (l : List ℕ) (d : List Bool) where
  -- The table of steps behind it.
  abbrev Marked : List ℕ → Type 0
  Marked l' = (length l' ≡ 2048) × (left_in l' ≡ with_used (left_in l) (cond (misshapen (case_of s) k) (used_of l) (takes (used_of l) k (premises_of (case_of s) k))))

  judged_stop :
      (e : Refusal) (l' : List ℕ) → Marked l' → ((c : List Bool) → run_meant {A = Unit {0}} (Err e) ≡ in_order (step_checks (case_of s) k (state_of l c d))) → JudgedAs s k l d (Err e) l'
  judged_stop e l' m p = record { long = m.0; is = λ c. told_stop (case_of s) k (state_of l c d) e (p c); left = m.1 }

  -- One of 12 to 16.
  judged_misshapen :
      (e : Refusal) (l' : List ℕ) → Marked l' → ((c : List Bool) → run_meant {A = Unit {0}} (Err e) ≡ in_order (shape_checks (case_of s) k (state_of l c d))) → JudgedAs s k l d (Err e) l'
  judged_misshapen e l' m p = judged_stop e l' m (λ c. shape_stops (case_of s) k (state_of l c d) e (p c))

  pub judged_12 : (e : Refusal) → run_meant {A = Unit {0}} (Err e) ≡ try (single 12 k (misshapen (case_of s) k)) → length l ≡ 2048 → JudgedAs s k l d (Err e) l
  unfolding run_meant
  judged_12 e bad long =
      let shape : misshapen (case_of s) k ≡ true = (try_refuses (single 12 k (misshapen (case_of s) k)) _ _ (sym bad)).2 in
      judged_misshapen e l (long, rw shape) (λ c. shape_12 (case_of s) k (state_of l c d) e bad)

  module _ (l' : List ℕ) (from len : ℕ) (found : Bool) (fine : misshapen (case_of s) k ≡ false) (e : from ≡ step_from s k) (f : len ≡ step_count s k)
      (t : Taken s k from len l found l') where
    span : listed (premise_step s) len from ≡ premises_of (case_of s) k
    unfolding premises_of case_of
    span = rw (e, f)

    taken : found ≡ bad_premises (used_of l) k (premises_of (case_of s) k)
    taken = t.is ∙ ap (bad_premises (used_of l) k) span

    marked : Marked l'
    marked = (t.long, rw fine (t.left ∙ ap (λ ps. with_used (left_in l) (takes (used_of l) k ps)) span))

    pub judged_13 : (r : Refusal) → run_meant {A = Unit {0}} (Err r) ≡ try (single 13 k found) → JudgedAs s k l d (Err r) l'
    unfolding state_of
    judged_13 r bad = judged_misshapen r l' marked (λ c. shape_13 (case_of s) k (state_of l c d) fine r (bad ∙ ap (λ b. try (single 13 k b)) taken))

    module _ (free : found ≡ false) where
      none_bad : bad_premises (used_of l) k (premises_of (case_of s) k) ≡ false
      none_bad = sym taken ∙ free

      pub premises_below : PremisesBelow s from len k
      premises_below = premises_earlier (premise_step s) (used_of l) k len from (sym t.is ∙ free)

      -- What checks 14 to 16 say is what 12 to 16 say.
      said : (c : List Bool) → in_order (citation_checks (case_of s) (rule_of (case_of s) k).names (step_argument s k) k) ≡ in_order (shape_checks (case_of s) k (state_of l c d))
      unfolding state_of case_of
      said c = shape_cited (case_of s) k (state_of l c d) fine none_bad

      -- One of 14 to 16 fails.
      pub judged_missing :
          (r : Refusal) → run_meant {A = Unit {0}} (Err r) ≡ in_order (citation_checks (case_of s) (rule_of (case_of s) k).names (step_argument s k) k) → JudgedAs s k l d (Err r) l'
      judged_missing r is = judged_misshapen r l' marked (λ c. is ∙ said c)

      module _ (is : accepts tt ≡ in_order (citation_checks (case_of s) (rule_of (case_of s) k).names (step_argument s k) k)) where
        -- What holds once 12 to 16 have let the step pass.
        pub shaped_step : k < count s step_part → EarlierNumbered s k → ShapedStep s k
        shaped_step inside earlier =
            record { inside = inside; shaped = fine; earlier = earlier; premises = rw (← e, ← f) premises_below; cites = cited_entry k is }

        module _ (above : Above) (a : IsAbove s from len l' above) where
          rests_are : rests_meant above.rests ≡ together (rests_of l) (premises_of (case_of s) k)
          rests_are = a.rests ∙ (λ i. together (λ j. (t.left i j).rests) (span i))

          in_state : (c : List Bool) → UsesIn (case_of s) k l' d above (state_of l c d)
          unfolding state_of
          in_state c =
              record {
                spent = refl;
                table = ap (λ f j. (f j).rests) (sym t.left);
                rests_are = rests_are;
                shared_is = a.shared ∙ (λ i. share (case_of s) (λ j. (t.left i j).rests.opens) (span i));
              }

          decided_by_uses : (c : List Bool) → in_order (use_checks (case_of s) k (state_of l c d)) ≡ in_order (step_checks (case_of s) k (state_of l c d))
          decided_by_uses c = shape_passed (case_of s) k (state_of l c d) (is ∙ said c)

          pub judged_misused : (r : Refusal) → ((st : State) → UsesIn (case_of s) k l' d above st → run_meant {A = Unit {0}} (Err r) ≡ in_order (use_checks (case_of s) k st)) → JudgedAs s k l d (Err r) l'
          judged_misused r uses = judged_stop r l' marked (λ c. uses (state_of l c d) (in_state c) ∙ decided_by_uses c)

          pub judged_passed : ((st : State) → UsesIn (case_of s) k l' d above st → accepts tt ≡ in_order (use_checks (case_of s) k st)) → JudgedAs s k l d (Ok above.rests) l'
          unfolding state_of
          judged_passed uses =
              record {
                long = t.long;
                is = λ c. told_rests (case_of s) k (state_of l c d) above.rests (uses (state_of l c d) (in_state c) ∙ decided_by_uses c) rests_are;
                left = marked.1;
              }

-- A step in which no check fails: 12 and 13 let it pass, and what it cites is there.
pub record Unrefused (c : Case) (k : ℕ) (t : State) : Type 0 where
  pub shaped : misshapen c k ≡ false
  pub free : bad_premises (used_in t) k (premises_of c k) ≡ false
  pub cites : CitedEntry c (rule_of c k).names (c.step k).argument
  pub shape : accepts tt ≡ in_order (shape_checks c k t)

shape_fine : (c : Case) (k : ℕ) (t : State) → AllHold (shape_checks c k t) → accepts tt ≡ in_order (shape_checks c k t) → Unrefused c k t
unfolding shape_checks citation_checks
shape_fine c k t h shape =
    let checks = shape_checks c k t in
    record {
      shaped = (by_number 12 checks h).0;
      free = (by_number 13 checks h).0;
      cites = record { present = (by_number 14 checks h).0; there = (by_number 15 checks h).0; seen = (by_number 16 checks h).0; unstruck = (by_number 14 checks h).1.0 };
      shape = shape;
    }

pub no_fault : (c : Case) (k : ℕ) (t : State) → accepts tt ≡ in_order (step_checks c k t) → Unrefused c k t
unfolding step_checks
no_fault c k t e =
    let h = (both_hold (shape_checks c k t) (use_checks c k t) (all_hold (step_checks c k t) (sym e))).0 in
    shape_fine c k t h (sym (hold_all (shape_checks c k t) h))

-- The lengths, from the type of the tables.
pub full_length : (t : StepTables) → Tables t.left t.cited t.discharged
full_length t = record { left = t.left_long; cited = t.cited_long; discharged = t.discharged_long }

module _ (s : List ℕ) (k : ℕ) (l : List ℕ) (c d : List Bool) (l' : List ℕ) (t : Tables l c d) where
  -- The step is refused.
  pub stepped_refused : (e : Refusal) → JudgedAs s k l d (Err e) l' → Stepped s k (state_of l c d) (Err e) l' c d
  unfolding after_step by_run touched state_of run_meant
  stepped_refused e j =
      let refused = stop_told (case_of s) k (state_of l c d) e (j.is c) in
      record {
        tables = record { left = j.long; cited = t.cited; discharged = t.discharged };
        is = refused;
        state = rw (← refused, j.left);
      }

  -- It is accepted, and the tables get what it rests on and what it cites.
  module _ (r : Resting) (j : JudgedAs s k l d (Ok r) l') where
    passed : accepts tt ≡ in_order (step_checks (case_of s) k (state_of l c d))
    passed = (rests_told (case_of s) k (state_of l c d) r (j.is c)).0

    -- What it cites is there.
    pub cited_is : CitedEntry (case_of s) (rule_of (case_of s) k).names (step_argument s k)
    unfolding case_of
    cited_is = (no_fault (case_of s) k _ passed).cites

    pub stepped_accepted :
        (rests : Resting) (l'' : List ℕ) (c' d' : List Bool) (n : Names) (e : Effect) (a : ℕ) →
        n ≡ (rule_of (case_of s) k).names → e ≡ (rule_of (case_of s) k).effect → a ≡ step_argument s k → rests_meant rests ≡ rests_on n e a (rests_meant r) →
        (length l'' ≡ 2048) × (left_in l'' ≡ with_rests (left_in l') (update (rests_of l') k (rests_meant rests))) → CitedMarked n a c d c' d' → Stepped s k (state_of l c d) (Ok tt) l'' c' d'
    unfolding after_step by_run next state_of case_of run_meant
    stepped_accepted rests l'' c' d' n e a n_is e_is a_is leaving opened m =
        let fine = no_fault (case_of s) k (state_of l c d) passed in
        let used = rw fine.shaped at j.left ∙ ap (with_used (left_in l)) (all_taken (used_of l) k (premises_of (case_of s) k) fine.free) in
        let above = (rests_told (case_of s) k (state_of l c d) r (j.is c)).1 in
        let entered = leaving ∙ ap (rests_on n e a) above in
        let left = opened.1 ∙ (λ i. with_rests (used i) (update (λ x. (used i x).rests) k (entered i))) in
        record {
          tables = record { left = opened.0; cited = m.cited_long; discharged = m.discharged_long };
          is = passed;
          state = rw (← passed, left, m.cited, m.discharged, n_is, e_is, a_is);
        }
