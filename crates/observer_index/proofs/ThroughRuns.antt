-- The check through an index, by where it stops: a refusal by checks 1 to 9 or by 30, or what the checker makes of an admitted case with the table of what the agent sees. Assumes nothing.
use Prim.Native.Nat.{ℕ}
use mathlib.Core.Bool.{Bool, true, false, false≢true}
use mathlib.Core.Path.{◌≡◌, refl, sym, ◌∙◌}
use mathlib.Core.List.{List, ◌++◌}
use lib.ListN.{length, replicate}
use Rattle.std.specs.Prelude.{Result, Ok, Err, not}
use Rattle.case_file.proofs.Laws.{logged_booked, full_table_view}
use Rattle.case_file.specs.LentCase.{CaseLent}
use Rattle.case_file.specs.Seen.{log_with, hidden_code, SeenUpTo}
use Rattle.checker.proofs.ReportLaws.{refusal_reported, reported_as}
use Rattle.checker.specs.Meanings.{verdict_meant}
use Rattle.checker.specs.Reports.{justifying, Reported}
use Rattle.checker.specs.declared.verdict.Verdict.{Verdict}
use Rattle.definition.proofs.AdmissionLaws.{admitted_logged}
use Rattle.definition.proofs.CheckLaws.{try_accepts, try_refuses, all_hold, skip_before, stop_before}
use Rattle.definition.proofs.IndexPromises.{as_built, not_as_built_lem, answered_through}
use Rattle.definition.specs.03-Lists.{begins}
use Rattle.definition.specs.04-Checks.{accepts, single, try, ◌>>◌}
use Rattle.definition.specs.11-Layout.{formula_part, log_part, observer_part, agent_of, part}
use Rattle.definition.specs.15-Records.{log_of, rows_in}
use Rattle.definition.specs.17-Case.{case_of}
use Rattle.definition.specs.18-Admission.{admission_checks, admission}
use Rattle.definition.specs.31-Outcome.{case_checks, all_checks, finding}
use Rattle.definition.specs.35-Index.{index_of, as_built_checks, checks_through, finding_through, outcome_through}
use Rattle.definition.specs.47-Indexed.{AnsweredThrough}
use Rattle.observer_index.proofs.BuildingRuns.{log_is}
use Rattle.observer_index.proofs.IndexTables.{replicated_length, replicated_within}
use Rattle.observer_index.specs.OwnList.{Hides}
use Rattle.words.specs.Meanings.{run_meant}
use Rattle.words.specs.declared.runs.Refusal.{Refusal}

not_false : (b : Bool) → not b ≡ true → b ≡ false
not_false true e = absurd (false≢true e)
not_false false e = refl

not_true : (b : Bool) → not b ≡ false → b ≡ true
not_true true e = refl
not_true false e = absurd (false≢true (sym e))

-- Check 30 passed.
pub index_begins : (b : Bool) {x : Unit {0}} → run_meant (Ok x) ≡ try (single 30 0 (not b)) → b ≡ true
unfolding run_meant
index_begins b e = not_true b (try_accepts _ (sym e))

-- A table in which every row is hidden.
pub all_hidden : (views : List ℕ) → views ≡ replicate 1024 hidden_code → Hides views
all_hidden views e = record { long = rw e (replicated_length {A = ℕ} 1024 hidden_code); hidden = λ k lt. rw e (replicated_within 1024 hidden_code k lt) }

-- What comes after the admission.
module _ (s : List ℕ) (is : admission s ≡ accepts tt) where
  pub other_reported :
      (index room : List ℕ) (r : Refusal) {rows observers : List ℕ} → rows ≡ part s log_part → observers ≡ part s observer_part →
      run_meant {A = Unit {0}} (Err r) ≡ try (single 30 0 (not (begins (index_of (log_with rows observers)) index))) → Reported (finding_through s index (length room)) room (Err r) room
  unfolding ◌>>◌ run_meant
  other_reported index room r e f other =
      let fails = try_refuses _ _ _ (sym (rw (log_is s e f) at other)) in
      refusal_reported (finding_through s index (length room)) room r (not_as_built_lem s index (length room) (not_false _ fails.2) ∙ rw (is, ← fails.0, ← fails.1))

  pub through_reported :
      (index room : List ℕ) {rows observers : List ℕ} {r : Result Verdict Refusal} {after : List ℕ} → rows ≡ part s log_part → observers ≡ part s observer_part → begins (index_of (log_with rows observers)) index ≡ true →
      Reported (justifying (case_of s) (length room)) room r after → Reported (finding_through s index (length room)) room r after
  unfolding finding all_checks admission justifying
  through_reported index room e f same h =
      reported_as
      (as_built s index (length room) (rw (log_is s e f) at same) ∙ rw (skip_before (admission_checks s) (case_checks (case_of s) (length room)) (all_hold (admission_checks s) is)))
      h

  pub case_listed :
      {b rows observers old v : List ℕ} {agent : ℕ} → b ≡ part s formula_part → rows ≡ part s log_part → observers ≡ part s observer_part → agent ≡ agent_of s → length old ≡ 1024 →
      SeenUpTo (log_with rows observers) agent (rows_in (log_with rows observers)) old v → CaseLent s b v
  case_listed {old = old} {v = v} book e f who long seen =
      let logged = admitted_logged s is in
      let table = rw (log_is s e f, who) at seen in
      record { lent = record { admitted = is; booked = logged_booked s logged book }; long = seen.long ∙ long; views = full_table_view s logged old v table }

-- The whole answer, with demand 3.
pub reported_answer :
    (s index room : List ℕ) (r : Result Verdict Refusal) (after : List ℕ) → Reported (finding_through s index (length room)) room r after → AnsweredThrough (λ v. v) s index room (verdict_meant r) after
unfolding outcome_through
reported_answer s index room r after h = answered_through (λ v. v) s index room (verdict_meant r) after h.verdict h.room_is

pub refused_answer : (s index room : List ℕ) (r : Refusal) → run_meant {A = Unit {0}} (Err r) ≡ admission s → AnsweredThrough (λ v. v) s index room (verdict_meant (Err r)) room
unfolding finding_through checks_through admission ◌>>◌ run_meant
refused_answer s index room r e =
    reported_answer s index room (Err r) room
    (refusal_reported (finding_through s index (length room)) room r
    (rw (← stop_before (admission_checks s ++ as_built_checks (log_of s) index) (case_checks (case_of s) (length room)) (stop_before (admission_checks s) (as_built_checks (log_of s) index) e))))
