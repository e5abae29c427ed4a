-- What follows the admission, by where the code stops: the verdict and the room are those that the definition reports. Assumes nothing.
use Prim.Native.Nat.{ℕ, ◌+◌, ◌<◌}
use mathlib.Core.Path.{◌≡◌, refl, sym, ap, ◌∙◌}
use mathlib.Core.Option.{Option, none, some}
use mathlib.Core.Bool.{true≢false}
use mathlib.Core.List.{List, ◌++◌}
use native.Mathlib.Omega.{arith}
use lib.ListN.{length, drop}
use borrow.Author.Tests.{lt-ltb}
use Rattle.definition.proofs.AdmissionLaws.{admitted_logged}
use Rattle.definition.proofs.CheckLaws.{all_hold, skip_before, stop_before}
use Rattle.definition.proofs.PromiseLaws as promises
use Rattle.definition.proofs.RefusalTable.{none_owed_of}
use Rattle.definition.proofs.States.{steps_fine}
use Rattle.definition.proofs.StepLaws.{fine_shaped}
use Rattle.definition.specs.04-Checks.{AllHold, Check, Checked, refuses, ◌>>◌, in_order}
use Rattle.definition.specs.11-Layout.{formula_part, step_part, part, count}
use Rattle.definition.specs.13-Formulas.{Formula}
use Rattle.definition.specs.17-Case.{Case, case_of}
use Rattle.definition.specs.18-Admission.{admission_checks, admission}
use Rattle.definition.specs.22-Steps.{State, start_state, checks_of_steps, state_at}
use Rattle.definition.specs.23-Duties.{duty_checks}
use Rattle.definition.specs.31-Outcome.{Finding, owes, is_owed, has_steps, needless_proof, discharged_list, cited_list, owing_checks, closing_checks, room_checks, end_checks, final_state, proof_checks, checks_if_owed, case_checks, all_checks, found_if_owed, found, finding, report, outcome}
use Rattle.definition.specs.45-Promises.{Answered}
use Rattle.case_file.proofs.Laws.{logged_booked, table_view}
use Rattle.case_file.specs.AdmissionRuns.{before_log}
use Rattle.case_file.specs.Seen.{SeenAfter}
use Rattle.rules.proofs.ShapedStepLaws.{formula_inside}
use Rattle.case_file.specs.LentCase.{Lent, CaseLent}
use Rattle.case_parts.specs.ShapedSteps.{EarlierNumbered}
use Rattle.std.specs.Prelude.{Result, Ok, Err}
use Rattle.words.specs.declared.runs.Refusal.{Refusal}
use Rattle.words.specs.Meanings.{check_number, run_meant}
use Rattle.checker.proofs.StepRun.{all_accepted}
use Rattle.checker.specs.Meanings.{verdict_meant}
use Rattle.checker.specs.Reports.{listing, concluding, proof, owing_nothing, justifying, Reported}
use Rattle.checker.specs.StepRuns.{after_run}
use Rattle.checker.specs.declared.verdict.Verdict.{Verdict}
use Rattle.checker.specs.declared.verdict.Verdict.TheVariants.{Passed, NoneOwed}

-- A refusal is reported with its number and place, and keeps the room.
pub refusal_reported : (x : Checked Finding) (room : List ℕ) (r : Refusal) → x ≡ refuses (check_number r.check) r.place → Reported x room (Err r) room
unfolding report verdict_meant
refusal_reported x room r e = record { verdict = rw e; room_is = rw e }

-- What is reported of one run of checks is reported of another that comes to the same.
pub reported_as : {x y : Checked Finding} {room : List ℕ} {r : Result Verdict Refusal} {after : List ℕ} → y ≡ x → Reported x room r after → Reported y room r after
reported_as e h = record { verdict = rw e h.verdict; room_is = rw e h.room_is }

-- A run that stops does so whatever checks are behind it, and is reported.
pub stop_on : (r : Refusal) (cs ds : List Check) → run_meant {A = Unit {0}} (Err r) ≡ in_order cs → run_meant {A = Unit {0}} (Err r) ≡ in_order (cs ++ ds)
unfolding run_meant
stop_on r cs ds e = stop_before cs ds e

pub stop_reported : (r : Refusal) (cs : List Check) (found : Checked Finding) (room : List ℕ) → run_meant {A = Unit {0}} (Err r) ≡ in_order cs → Reported (◌>>◌ (in_order cs) found) room (Err r) room
unfolding run_meant ◌>>◌
stop_reported r cs found room e = refusal_reported (◌>>◌ (in_order cs) found) room r (rw (← e))

-- The checks of a list hold where their run comes to `Ok`, and then those behind them decide.
held : (cs : List Check) → run_meant (Ok tt) ≡ in_order cs → AllHold cs
unfolding run_meant
held cs e = all_hold cs (sym e)

pub go_on : (cs ds : List Check) → run_meant (Ok tt) ≡ in_order cs → in_order ds ≡ in_order (cs ++ ds)
go_on cs ds e = sym (skip_before cs ds (held cs e))

module _ (c : Case) (s : State) (room : List ℕ) where
  -- Check 23, where it holds, and the lists.
  pub listing_passed :
      (d r : ℕ) (after : List ℕ) → d ≡ length (discharged_list c s) → r ≡ length (cited_list c s) → run_meant (Ok tt) ≡ in_order (room_checks c s (length room)) →
      after ≡ discharged_list c s ++ cited_list c s ++ drop (d + r) room → Reported (listing c s (length room)) room (Ok (Passed d r)) after
  unfolding listing report verdict_meant run_meant ◌>>◌
  listing_passed d r after e f fits is = record { verdict = rw (← fits, e, f); room_is = is ∙ rw (← fits, e, f) }

  -- The checks before 23, where all of them hold.
  pub end_listing :
      (r : Result Verdict Refusal) (after : List ℕ) → run_meant (Ok tt) ≡ in_order (closing_checks c s ++ duty_checks c) →
      Reported (listing c s (length room)) room r after → Reported (concluding c s (length room)) room r after
  unfolding concluding end_checks listing
  end_listing r after e = reported_as (rw (← go_on (closing_checks c s ++ duty_checks c) (room_checks c s (length room)) e))

-- The duties, where nothing is owed and there are no steps, and both of their checks hold.
pub none_owed_reported : (c : Case) (room : List ℕ) → run_meant (Ok tt) ≡ in_order (duty_checks c) → Reported (owing_nothing c) room (Ok NoneOwed) room
unfolding owing_nothing report verdict_meant run_meant ◌>>◌
none_owed_reported c room e = record { verdict = rw (← e); room_is = rw (← e) }

-- What follows the steps, where all of them pass.
pub proof_run :
    (c : Case) (room : ℕ) (s : State) → run_meant (Ok tt) ≡ in_order (checks_of_steps c c.steps 0 start_state) → s ≡ after_run c c.steps 0 start_state →
    proof c room ≡ concluding c s room
unfolding proof proof_checks concluding final_state state_at
proof_run c room s e is =
    let all : 0 + c.steps ≡ c.steps = omega arith in
    let last : s ≡ state_at c c.steps = is ∙ all_accepted c c.steps 0 (held _ e) ∙ ap (state_at c) all in
    rw (last, ← go_on (checks_of_steps c c.steps 0 start_state) (end_checks c (state_at c c.steps) room) e)

-- Where all steps have passed, each has a formula of the book.
pub all_numbered : {s b : List ℕ} → Lent s b → run_meant (Ok tt) ≡ in_order (checks_of_steps (case_of s) (case_of s).steps 0 start_state) → EarlierNumbered s (count s step_part)
unfolding state_at case_of
all_numbered {s} {b} lent e j lt =
    let c = case_of s in
    formula_inside j lent (fine_shaped c j _ (steps_fine c c.steps 0 (held _ e) j (omega arith) (omega arith)))

-- Checks 10 and 11, where both hold: nothing is owed, or the steps are looked at.
module _ (c : Case) (room : List ℕ) (fine : run_meant (Ok tt) ≡ in_order (owing_checks c)) where
  passed : in_order (checks_if_owed (owes c) c (length room)) ≡ in_order (case_checks c (length room))
  unfolding case_checks
  passed = go_on (owing_checks c) (checks_if_owed (owes c) c (length room)) fine

  none_reported : owes c ≡ none → {r : Result Verdict Refusal} → Reported (owing_nothing c) room r room → Reported (justifying c (length room)) room r room
  unfolding justifying owing_nothing checks_if_owed found found_if_owed
  none_reported e = reported_as (rw (← passed, e))

  some_reported : (f : Formula) → owes c ≡ some f → (r : Result Verdict Refusal) (after : List ℕ) → Reported (proof c (length room)) room r after → Reported (justifying c (length room)) room r after
  unfolding justifying proof checks_if_owed found found_if_owed
  some_reported f e r after = reported_as (rw (← passed, e))

  pub nothing_owed_reported : c.steps ≡ 0 → {r : Result Verdict Refusal} → Reported (owing_nothing c) room r room → Reported (justifying c (length room)) room r room
  nothing_owed_reported z h = none_reported (none_owed_of c (held _ fine) z) h

  pub steps_reported : 0 < c.steps → (r : Result Verdict Refusal) (after : List ℕ) → Reported (proof c (length room)) room r after → Reported (justifying c (length room)) room r after
  unfolding owing_checks needless_proof is_owed has_steps
  steps_reported lt r after h = go (owes c) refl
    where
      go : (o : Option Formula) → owes c ≡ o → Reported (justifying c (length room)) room r after
      go none e = absurd (true≢false (rw (e, lt-ltb 0 c.steps lt) at (held _ fine).1.0))
      go (some f) e = some_reported f e r after h

-- The whole answer: the outcome, and demand 3 with it.
module _ (s room : List ℕ) (r : Result Verdict Refusal) (after : List ℕ) where
  pub answered : Reported (finding s (length room)) room r after → Answered (λ v. v) s room (verdict_meant r) after
  unfolding outcome
  answered h = promises.answered (λ v. v) s room (verdict_meant r) after h.verdict h.room_is

  pub answered_admitted : run_meant (Ok tt) ≡ admission s → Reported (justifying (case_of s) (length room)) room r after → Answered (λ v. v) s room (verdict_meant r) after
  unfolding finding all_checks admission justifying
  answered_admitted e h = answered (reported_as (rw (← go_on (admission_checks s) (case_checks (case_of s) (length room)) e)) h)

-- An admitted file, with the table that the admission has filled, is what the rest is lent.
pub case_lent :
    (s b old v : List ℕ) → run_meant (Ok tt) ≡ admission s → b ≡ part s formula_part → length old ≡ 1024 → SeenAfter (before_log s) s old v → CaseLent s b v
unfolding run_meant
case_lent s b old v is e long seen =
    let logged = admitted_logged s (sym is) in
    record { lent = record { admitted = sym is; booked = logged_booked s logged e }; long = seen.long ∙ long; views = table_view s logged old v seen }
