-- What the tests of checks 31 and 32 say, and so what it takes that both hold: the duties' part of the account. Assumes nothing.
use Prim.Native.Nat.{ℕ, ◌<◌}
use mathlib.Core.Path.{◌≡◌, refl, ap}
use mathlib.Core.Bool.{true, false≢true}
use mathlib.Core.Logic.{◌↔◌}
use mathlib.Core.Option.{Option, none, some}
use native.Mathlib.Omega.{arith}
use borrow.Author.Tests.{eqb-true, eq-eqb}
use Rattle.definition.proofs.CheckLaws.{by_number}
use Rattle.definition.proofs.ConclusionLaws.{none_some}
use Rattle.definition.proofs.RangeLaws.{any_true, any_some}
use Rattle.definition.proofs.Tests.{and_is, below_is, equals_is, never_false, not_both, not_is, refutes}
use Rattle.definition.proofs.TreeEquality.{same_true, same_refl}
use Rattle.definition.specs.04-Checks.{AllHold}
use Rattle.definition.specs.13-Formulas.{Formula, each_use}
use Rattle.definition.specs.16-Views.{RowView, hidden, struck, shows}
use Rattle.definition.specs.17-Case.{Case}
use Rattle.definition.specs.23-Duties.{is_expired, carries, done_by, is_done, undone, is_row, uses_up, used_up_before, names_again, duty_checks}
use Rattle.definition.specs.42-Account.{CarriedOut, DutiesKept}
use Rattle.definition.specs.49-Duties.{NotKept, NamedTwice}

-- A row carries an action just if it shows it.
carries_shown : (v : RowView) (f : Formula) → (carries v f ≡ true) ↔ (v ≡ shows f)
unfolding carries
carries_shown hidden f = (λ e. absurd (false≢true e), λ e. absurd (let z : ◌≡◌ {A = ℕ} 0 1 = cc in omega arith))
carries_shown struck f = (λ e. absurd (false≢true e), λ e. absurd (let z : ◌≡◌ {A = ℕ} 0 1 = cc in omega arith))
carries_shown (shows g) f = (λ e. ap shows (same_true g f e), λ e. let is : g ≡ f = cc in rw is (same_refl f))

done_by_lem : (c : Case) (r : Option ℕ) (f : Formula) → (done_by c r f ≡ true) ↔ ((k : ℕ) × (r ≡ some k) × (c.row k ≡ shows f))
unfolding done_by
done_by_lem c none f = (λ e. absurd (false≢true e), λ w. absurd (none_some w.1))
done_by_lem c (some k) f = (λ e. (k, refl, (carries_shown (c.row k) f).0 e), λ w. let is : k ≡ w.0 = cc in (carries_shown (c.row k) f).1 (rw is w.2))

-- An obligation is done just if it was carried out.
pub done_is : (c : Case) (o : ℕ) → (is_done c o ≡ true) ↔ CarriedOut c o
unfolding is_done
done_is c o =
    let d = done_by_lem c (c.obligation o).row (c.obligation o).formula in (
      λ e. let w = d.0 e in record { row = w.0; named = w.1; seen = w.2 },
      λ w. d.1 (w.row, w.named, w.seen),
    )

-- The test of check 31, and of check 32.
pub undone_is : (c : Case) (o : ℕ) → (undone c o ≡ true) ↔ NotKept c o
unfolding undone is_expired
undone_is c o = and_is (below_is _ _) (not_is (done_is c o))

row_is : (k : ℕ) (r : Option ℕ) → (is_row k r ≡ true) ↔ (r ≡ some k)
unfolding is_row
row_is k none = (λ e. absurd (false≢true e), λ e. absurd (none_some e))
row_is k (some j) = (λ e. ap some (eqb-true j k e), λ e. eq-eqb j k (let is : j ≡ k = cc in is))

uses_up_is : (c : Case) (k o : ℕ) → (uses_up c k o ≡ true) ↔ (((c.obligation o).mark ≡ each_use) × ((c.obligation o).row ≡ some k))
unfolding uses_up
uses_up_is c k o = and_is (equals_is _ each_use) (row_is k _)

used_up_is :
    (c : Case) (o : ℕ) (r : Option ℕ) →
    (used_up_before c o r ≡ true) ↔ ((q : ℕ) × (k : ℕ) × (q < o) × (r ≡ some k) × ((c.obligation q).mark ≡ each_use) × ((c.obligation q).row ≡ some k))
unfolding used_up_before
used_up_is c o none = (λ e. absurd (false≢true e), λ w. absurd (none_some w.3))
used_up_is c o (some k) = (
  λ e. let w = any_true (uses_up c k) o 0 e in let u = (uses_up_is c k w.0).0 w.3 in (w.0, k, omega (arith, w.2), refl, u.0, u.1),
  λ w.
      let is : k ≡ w.1 = let s : some k ≡ some w.1 = w.3 in cc in
      any_some (uses_up c k) o 0 w.0 (omega arith) (omega (arith, w.2)) ((uses_up_is c k w.0).1 (w.4, rw is w.5)),
)

pub names_again_is : (c : Case) (o : ℕ) → (names_again c o ≡ true) ↔ NamedTwice c o
unfolding names_again
names_again_is c o =
    let t = and_is (equals_is (c.obligation o).mark each_use) (used_up_is c o (c.obligation o).row) in (
      λ e.
          let w = t.0 e in
          record { earlier = w.1.0; row = w.1.1; before = w.1.2; each = w.0; earlier_each = w.1.4; names = w.1.3; earlier_names = w.1.5 },
      λ w. t.1 (w.each, (w.earlier, w.row, w.before, w.names, w.earlier_each, w.earlier_names)),
    )

-- Checks 31 and 32 hold just if the duties are kept.
module _ (c : Case) where
  pub holding_kept : AllHold (duty_checks c) → DutiesKept c
  unfolding duty_checks
  holding_kept h =
      let done = (by_number 31 (duty_checks c) h).0 in
      let apart = (by_number 32 (duty_checks c) h).0 in
      record {
        carried_out = λ o lt due. (done_is c o).0 (never_false (is_done c o) (λ f. (refutes (undone_is c o)).0 (done o lt) (due, (refutes (done_is c o)).0 f)));
        apart = λ o p k before lt e f names named. not_both ((names_again_is c p).1 (record { earlier = o; row = k; before = before; each = f; earlier_each = e; names = named; earlier_names = names })) (apart p lt);
      }

  pub kept_holding : DutiesKept c → AllHold (duty_checks c)
  unfolding duty_checks
  kept_holding d = (
    λ o lt. (refutes (undone_is c o)).1 (λ w. w.1 (d.carried_out o lt w.0)),
    (λ o lt. (refutes (names_again_is c o)).1 (λ w. d.apart w.earlier o w.row w.before lt w.earlier_each w.each w.earlier_names w.names), tt),
  )
