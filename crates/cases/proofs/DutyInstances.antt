-- The theorems of request 6 on the desk's duties, computed: their hypotheses can be met, and neither side is empty. That alike files have to share the audit hour is in definition's proofs/NotAside. Assumes nothing.
use Prim.Native.Nat.{ℕ, zero, suc, ◌≤◌, ◌<◌}
use mathlib.Core.Bool.{true}
use mathlib.Core.Logic.{◌⊎◌, inr, ⊎_elim}
use mathlib.Core.Path.{◌≡◌, refl, ap}
use mathlib.Core.Option.{none, some}
use mathlib.Core.List.{List, [], ◌∷◌, ◌++◌}
use native.Mathlib.Omega.{arith}
use lib.ListN.{length}
use Rattle.definition.proofs.AdmissionLaws.{admitted_parted}
use Rattle.definition.proofs.ConclusionLaws.{none_some}
use Rattle.definition.proofs.DutyNumbers.{refused_for_length, duties_read, refused_bad_duty, refused_bad_audit, done_by_numbers}
use Rattle.definition.proofs.DutyPromises.{refused_undone, refused_named_twice, unseen_is_not_done, duties_alone, kept_as_before, none_due_kept, old_is_refused}
use Rattle.definition.proofs.NoneOwed.{owes_nothing, none_owed_exactly}
use Rattle.definition.proofs.PassesExactly.{passes_exactly}
use Rattle.definition.specs.01-Words.{words, absent}
use Rattle.definition.specs.04-Checks.{Checked, refuses}
use Rattle.definition.specs.13-Formulas.{each_use, once}
use Rattle.definition.specs.15-Records.{log_of, row_action, obligation_action, obligation_row}
use Rattle.definition.specs.17-Case.{case_of}
use Rattle.definition.specs.19-Rewriting.{pairs, with_number}
use Rattle.definition.specs.31-Outcome.{refused, outcome}
use Rattle.definition.specs.42-Account.{CarriedOut, DutiesKept}
use Rattle.definition.specs.44-Demands.{Accounted}
use Rattle.definition.specs.46-Requests.{outcome_without, evaluated_requests}
use Rattle.definition.specs.49-Duties.{ButForDuties, NotKept, NamedTwice, LowestOf, is_duty_number, DutyRead, GoodDuty, GoodAudit, RefusedAsOld}
use Rattle.definition.specs.51-Files.{not_due, creates_row}
use Rattle.definition.specs.53-Desk.{lent, grant_owing, twice, twice_due, due_before, built}
use Rattle.definition.specs.55-HiddenRows.{never_both}

-- Where something is owed: an expired duty that names no row. All is accounted for but that.
abbrev undone_file : List ℕ
undone_file = twice_due 0 1 once (due_before once absent ∷ []) 0

pub owed_undone : ButForDuties undone_file × LowestOf (NotKept (case_of undone_file)) (case_of undone_file) 0
unfolding built
owed_undone = (refused_undone undone_file lent 0).0 refl

pub owed_accounted : Accounted (case_of undone_file)
unfolding built
owed_accounted = ⊎_elim (λ a. a) (λ n. absurd (let z : ◌≡◌ {A = ℕ} 8 0 = n.0 in omega arith)) owed_undone.0.1

-- Without computing: in every room.
pub owed_refused : (room : List ℕ) → (outcome undone_file room).verdict ≡ refused 31 0
owed_refused room = (refused_undone undone_file room 0).1 owed_undone

-- Where nothing is owed: Creator with duties, of which its row 0 did those that name it.
abbrev creator_owing : (obligations : List (List ℕ)) → List ℕ
creator_owing obligations = grant_owing 0 0 0 0 obligations [] []

abbrev creator_undone : List ℕ
creator_undone = creator_owing (due_before once absent ∷ [])

pub nothing_owed_undone : (room : List ℕ) → (outcome creator_undone room).verdict ≡ refused 31 0
unfolding built
nothing_owed_undone room =
    let c = case_of creator_undone in
    let none_done : NotKept c 0 = (omega arith, λ w. none_some w.named) in
    (refused_undone creator_undone room 0).1 ((refl, inr (owes_nothing c refl refl)), (omega arith, none_done, λ q lt. absurd (omega arith)))

-- Two each-use duties on one row, both done: the second one is told. Where something is owed, and where nothing is.
abbrev twice_named : List ℕ
twice_named = twice_due 0 1 each_use (due_before each_use 1 ∷ due_before each_use 1 ∷ []) 1

pub owed_named_twice : LowestOf (NamedTwice (case_of twice_named)) (case_of twice_named) 1
unfolding built
owed_named_twice = ((refused_named_twice twice_named lent 1).0 refl).2

abbrev creator_named : List ℕ
creator_named = creator_owing (due_before each_use 0 ∷ due_before each_use 0 ∷ [])

creator_did : (o : ℕ) → o < 2 → CarriedOut (case_of creator_named) o
unfolding built
creator_did zero lt = record { row = 0; named = refl; seen = refl }
creator_did (suc zero) lt = record { row = 0; named = refl; seen = refl }
creator_did (suc (suc o)) lt = absurd (omega arith)

pub nothing_owed_named_twice : (room : List ℕ) → (outcome creator_named room).verdict ≡ refused 32 1
unfolding built
nothing_owed_named_twice room =
    let c = case_of creator_named in
    let second : NamedTwice c 1 = record { earlier = 0; row = 0; before = omega arith; each = refl; earlier_each = refl; names = refl; earlier_names = refl } in
    let first_alone : (q : ℕ) → q < 1 → NamedTwice c q → ⊥ = λ q lt w. omega (arith, w.before) in
    (refused_named_twice creator_named room 1).1 ((refl, inr (owes_nothing c refl refl)), λ q lt w. w.1 (creator_did q lt), (omega arith, second, first_alone))

-- An unseen row is not done, though its action is the duty's.
abbrev unseen_file : List ℕ
unseen_file = twice_due 0 0 once (due_before once 1 ∷ []) 0

pub unseen_same_action : row_action (log_of unseen_file) 1 ≡ obligation_action unseen_file 0
unfolding built
unseen_same_action = refl

pub unseen_not_done : CarriedOut (case_of unseen_file) 0 → ⊥
unfolding built
unseen_not_done = unseen_is_not_done unseen_file 0 1 refl refl

-- A refusal by 31 is what the request changes: without its checks the file passes.
pub undone_differs : outcome_without is_duty_number undone_file lent ≡ outcome undone_file lent → ⊥
unfolding built evaluated_requests is_duty_number
undone_differs e = never_both {d = 1} {r = 1} {n = 31} {p = 0} (ap (λ o. o.verdict) e)

pub undone_alone : (n : ℕ) × (o : ℕ) × (is_duty_number n ≡ true) × (outcome undone_file lent ≡ record { verdict = refused n o; room = lent })
undone_alone = ⊎_elim (λ e. absurd (undone_differs e)) (λ w. w) (duties_alone undone_file lent)

-- The desk duty is not due and names no row: the request changes nothing of it.
abbrev desk_duty : List ℕ
desk_duty = twice once (not_due once 0 ∷ []) 0

none_due : (o : ℕ) → o < 1 → ((case_of desk_duty).hour ≤ ((case_of desk_duty).obligation o).due) × (((case_of desk_duty).obligation o).row ≡ none)
unfolding built
none_due zero lt = (omega arith, refl)
none_due (suc o) lt = absurd (omega arith)

pub desk_duty_as_before : outcome_without is_duty_number desk_duty lent ≡ outcome desk_duty lent
unfolding built
desk_duty_as_before = kept_as_before desk_duty lent (none_due_kept (case_of desk_duty) none_due)

-- Files of the layout before the request: a header of 36 bytes alone, which 1 refuses, and one with a formula, which 2 does.
abbrev old_file : (formulas : List ℕ) → List ℕ
old_file formulas = words (0 ∷ 0 ∷ pairs 36 (formulas ∷ [] ∷ [] ∷ [] ∷ [] ∷ [] ∷ [] ∷ [] ∷ [])) ++ formulas

abbrev old_formula : List ℕ
old_formula = creates_row 0 16384

pub old_header_refused : (number : ℕ) × RefusedAsOld (old_file []) number
unfolding built
old_header_refused = old_is_refused (old_file []) refl

pub old_formula_refused : (number : ℕ) × RefusedAsOld (old_file old_formula) number
unfolding built
old_formula_refused = old_is_refused (old_file old_formula) refl

pub old_numbers : (old_header_refused.0 ≡ 1) × (old_formula_refused.0 ≡ 2)
unfolding built
old_numbers = (number old_header_refused.1.admitted, number old_formula_refused.1.admitted)
  where
    number : {n m : ℕ} → ◌≡◌ {A = Checked (Unit {0})} (refuses n 0) (refuses m 0) → m ≡ n
    number e = cc

-- A duty kept that has expired: the passing desk case has an account of the duties, in which row 1 did obligation 0. So has the Creator whose duty was done.
abbrev done_file : List ℕ
done_file = twice_due 0 1 once (due_before once 1 ∷ []) 0

pub done_kept : DutiesKept (case_of done_file)
unfolding built
done_kept = ((passes_exactly done_file lent).0 (1, 1, refl)).0.2

pub done_carried_out : CarriedOut (case_of done_file) 0
unfolding built
done_carried_out = done_kept.carried_out 0 (omega arith) (omega arith)

pub done_by_row_1 : done_carried_out.row ≡ 1
unfolding built
done_by_row_1 = let e : some 1 ≡ some done_carried_out.row = done_carried_out.named in cc

pub creator_kept : DutiesKept (case_of (creator_owing (due_before once 0 ∷ [])))
unfolding built
creator_kept = ((none_owed_exactly (creator_owing (due_before once 0 ∷ [])) lent).0 refl).2

-- By the numbers of the file: no bytes, which 1 refuses; an obligation without a due hour, and an audit without an hour; and the duty that was done, as it lies in the file.
pub empty_told : (length {A = ℕ} [] < 38) ⊎ (47910 < length {A = ℕ} [])
unfolding built
empty_told = ((refused_for_length [] lent 0).0 refl).1

abbrev no_due_hour : List ℕ
no_due_hour = creator_owing ((once ∷ 0 ∷ absent ∷ absent ∷ []) ∷ [])

pub no_due_hour_told : GoodDuty no_due_hour 0 → ⊥
unfolding built
no_due_hour_told = ((refused_bad_duty no_due_hour 0).0 refl).2

abbrev no_audit_hour : List ℕ
no_audit_hour = with_number done_file 18 absent

pub no_audit_hour_told : GoodAudit no_audit_hour → ⊥
unfolding built
no_audit_hour_told = ((refused_bad_audit no_audit_hour 0).0 refl).3

pub done_read : DutyRead done_file 0
unfolding built
done_read = (duties_read done_file (admitted_parted done_file refl)).2 0 (omega arith)

pub done_by_action : row_action (log_of done_file) (obligation_row done_file 0) ≡ obligation_action done_file 0
unfolding built
done_by_action = ((done_by_numbers done_file 0 refl (omega arith)).0 done_carried_out).2
