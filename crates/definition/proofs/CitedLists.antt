-- Demand 2, on the lists: a pass lists what its steps of rules 12 and 2 cite, each once, ascending, and no two steps discharge the same each-use obligation. Assumes nothing.
use Prim.Native.Nat.{ℕ, ◌+◌, ◌<◌}
use mathlib.Core.Path.{◌≡◌, refl}
use mathlib.Core.Bool.{Bool, true, false, not, ◌||◌}
use mathlib.Core.Logic.{◌↔◌}
use mathlib.Core.List.{List, ◌++◌}
use native.Mathlib.Omega.{arith}
use lib.ListN.{length, drop}
use lib.Dec.{eqb}
use borrow.Author.Tests.{eqb-true}
use Rattle.definition.proofs.Findings.{reported_pass}
use Rattle.definition.proofs.ListLaws.{ascending_unique}
use Rattle.definition.proofs.Passes.{Proved, entries, finding_proved}
use Rattle.definition.proofs.RangeLaws.{members_among, members_ascend, all_true}
use Rattle.definition.proofs.RuleLaws.{inside}
use Rattle.definition.proofs.Sound.{once_each}
use Rattle.definition.proofs.StateMarks.{cited_before, before_cited}
use Rattle.definition.proofs.StepLaws.{fine_parts}
use Rattle.definition.specs.02-Ranges.{all, members}
use Rattle.definition.specs.03-Lists.{Among}
use Rattle.definition.specs.04-Checks.{Checked, accepts}
use Rattle.definition.specs.17-Case.{Case, case_of}
use Rattle.definition.specs.21-Rules.{Names, rule, rules, rule_at}
use Rattle.definition.specs.22-Steps.{State, start_state, rule_of, cites_nothing, is_a_row, is_an_obligation, mark_if, next, citation_checks, state_at}
use Rattle.definition.specs.31-Outcome.{Finding, justified, discharged_list, cited_list, needed, final_state, finding, report, outcome}
use Rattle.definition.specs.44-Demands.{StepsHold, Cites, Cited, Needs, PassLists, EachUseOnce}

-- of the sixteen rules only r has a name of this kind: a computed test says it of each
only_rule : (named : Names → Bool) (r : ℕ) → all (λ q. not (named (rule_at q).names) || eqb q r) 16 0 ≡ true → (q : ℕ) → q < 16 → named (rule_at q).names ≡ true → q ≡ r
only_rule named r e q lt h =
    let t = all_true (λ q. not (named (rule_at q).names) || eqb q r) 16 0 e q (omega arith) (omega arith) in
    eqb-true q r (rw h at t)

-- Obligations and rows are listed alike. A mark of the final state is one that a step of the rule made, and its entry is there.
module _ (c : Case) (fine : StepsHold c c.steps) (marks : State → ℕ → Bool) (named : Names → Bool) (r count : ℕ)
    (empty : (x : ℕ) → marks start_state x ≡ false)
    (turn : (k : ℕ) (s : State) → marks (next c k s) ≡ mark_if (named (rule_of c k).names) (marks s) (c.step k).argument)
    (only : (q : ℕ) → q < 16 → named (rule_at q).names ≡ true → q ≡ r)
    (that : named (rule_at r).names ≡ true)
    (there : (a : ℕ) → cites_nothing c (rule_at r).names a ≡ false → a < count)
  where
    listed_cited : (x : ℕ) → Among x (members (marks (final_state c)) count 0) ↔ Cites c r x
    unfolding final_state rule_of citation_checks
    listed_cited x = (
      λ m.
          let h = (members_among (marks (state_at c c.steps)) count 0 x).0 m in
          let b = cited_before c marks named empty turn c.steps x h.2 in
          (b.0, b.1, only (c.step b.0).rule (fine_parts c b.0 (state_at c b.0) (fine b.0 b.1)).local.number b.2, b.3),
      λ q.
          let lt : x < count = there x (rw (q.2, q.3) at (fine_parts c q.0 (state_at c q.0) (fine q.0 q.1)).local.tests.cites.1.0) in
          (members_among (marks (state_at c c.steps)) count 0 x).1
          (omega arith, omega arith, before_cited c marks named empty turn c.steps q.0 x q.1 (rw q.2 that) q.3),
    )

duties_cited : (c : Case) → StepsHold c c.steps → (o : ℕ) → Among o (discharged_list c (final_state c)) ↔ Cites c 12 o
unfolding discharged_list start_state next rule_at rules rule is_an_obligation cites_nothing all
duties_cited c fine =
    listed_cited c fine (λ s. s.discharged) is_an_obligation 12 c.obligations (λ x. refl) (λ k s. refl) (only_rule is_an_obligation 12 refl) refl (λ a e. inside a c.obligations e)

rows_cited : (c : Case) → StepsHold c c.steps → (x : ℕ) → Among x (cited_list c (final_state c)) ↔ Cites c 2 x
unfolding cited_list start_state next rule_at rules rule is_a_row cites_nothing all
rows_cited c fine =
    listed_cited c fine (λ s. s.cited) is_a_row 2 c.rows (λ x. refl) (λ k s. refl) (only_rule is_a_row 2 refl) refl (λ a e. inside a c.rows e)

-- The two lists of the final state are those of what the steps cite, and no others are.
pub lists_cited : (c : Case) → StepsHold c c.steps → Cited c (discharged_list c (final_state c)) (cited_list c (final_state c))
unfolding discharged_list cited_list
lists_cited c fine =
    record {
      duties_ascend = members_ascend (final_state c).discharged c.obligations 0;
      rows_ascend = members_ascend (final_state c).cited c.rows 0;
      duties_cited = duties_cited c fine;
      rows_cited = rows_cited c fine;
    }

as_much : {A B C : Type 0} → A ↔ C → B ↔ C → A ↔ B
as_much f g = (λ a. g.1 (f.0 a), λ b. f.1 (g.0 b))

module _ {s : List ℕ} (p : Proved s) where
  pub needs_entries : Needs (case_of s) (entries s)
  unfolding entries needed
  needs_entries = (discharged_list (case_of s) (final_state (case_of s)), cited_list (case_of s) (final_state (case_of s)), lists_cited (case_of s) p.proves.fine, refl)

  pub needs_only : {n : ℕ} → Needs (case_of s) n → entries s ≡ n
  unfolding entries needed
  needs_only needs =
      let l = lists_cited (case_of s) p.proves.fine in
      let c = needs.2 in
      let d = ascending_unique (discharged_list (case_of s) (final_state (case_of s))) needs.0 l.duties_ascend c.duties_ascend (λ x. as_much (l.duties_cited x) (c.duties_cited x)) in
      let r = ascending_unique (cited_list (case_of s) (final_state (case_of s))) needs.1 l.rows_ascend c.rows_ascend (λ x. as_much (l.rows_cited x) (c.rows_cited x)) in
      rw (d, r) needs.3

reported_room :
    (x : Checked Finding) (room ds rs : List ℕ) (d r : ℕ) → x ≡ accepts (justified ds rs) → length ds ≡ d → length rs ≡ r →
    (report x room).room ≡ ds ++ rs ++ drop (d + r) room
unfolding report
reported_room x room ds rs d r e ld lr = rw (e, ← ld, ← lr)

pub pass_lists : PassLists
unfolding outcome
pass_lists s room d r e =
    let c = case_of s in
    let x = reported_pass (finding s (length room)) room d r e in
    let p = finding_proved s (length room) x.0 x.1 x.2 in
    record {
      duties = x.0;
      rows = x.1;
      room_is = reported_room (finding s (length room)) room x.0 x.1 d r x.2 x.3 x.4;
      duties_count = x.3;
      rows_count = x.4;
      cited = rw (p.2, p.3) (lists_cited c p.0.proves.fine);
    }

pub each_use_once : EachUseOnce
unfolding outcome rule_of rule_at rules rule is_an_obligation
each_use_once s room d r e j k o lj lk rj rk aj ak m =
    let x = reported_pass (finding s (length room)) room d r e in
    let p = finding_proved s (length room) x.0 x.1 x.2 in
    once_each (case_of s) (case_of s).steps (omega arith) p.0.proves.fine lj lk (rw rj, aj) (rw rk, ak) m
