-- Request 6 of document 02: when checks 31 and 32 refuse, what the request changes, what checks 1, 7 and 9 ask now, where the new numbers lie, and that no file of the layout before is misread. Proved in proofs/DutyPromises and proofs/DutyNumbers.
use Rattle.std.specs.Prelude.{ℕ, ◌+◌, ◌*◌, ◌≤◌, ◌<◌, Bool, true, false, ◌||◌, ◌≡◌, ◌⊎◌, ◌↔◌, List, length, eqb}
use Rattle.std.proofs.Math.Option.{none, some}
use Rattle.definition.specs.01-Words.{word, absent}
use Rattle.definition.specs.04-Checks.{accepts, refuses, in_order}
use Rattle.definition.specs.11-Layout.{formula_part, condition_part, obligation_part, label_part, agent_of, action_of, hour_of, offset, size, count}
use Rattle.definition.specs.12-Terms.{agents_end}
use Rattle.definition.specs.13-Formulas.{each_use}
use Rattle.definition.specs.14-Book.{tree_in}
use Rattle.definition.specs.15-Records.{log_of, rows_in, formulas, row_action, obligation_mark, obligation_action, obligation_due, obligation_row, is_ground_action, bad_condition, bad_label}
use Rattle.definition.specs.16-Views.{is_seen}
use Rattle.definition.specs.17-Case.{Case, case_of}
use Rattle.definition.specs.18-Admission.{Parted, checks_to_log, admission}
use Rattle.definition.specs.31-Outcome.{refused, outcome}
use Rattle.definition.specs.35-Index.{building, outcome_through}
use Rattle.definition.specs.42-Account.{Duty, CarriedOut, DutiesKept}
use Rattle.definition.specs.44-Demands.{Accounted, OwesNothing}
use Rattle.definition.specs.46-Requests.{outcome_without}

-- The file is admitted, and its action accounted for, but for the duties: there is an account of what is owed, or nothing is owed and there are no steps.
abbrev pub ButForDuties : List ℕ → Type 0
ButForDuties s = (admission s ≡ accepts tt) × (Accounted (case_of s) ⊎ OwesNothing (case_of s))

-- Obligation o has expired, and was not carried out.
abbrev pub NotKept : Case → ℕ → Type 0
NotKept c o = ((c.obligation o).due < c.hour) × (CarriedOut c o → ⊥)

-- Obligation o is an each-use one, and so is an earlier one that names the same row.
pub record NamedTwice (c : Case) (o : ℕ) : Type 0 where
  pub earlier : ℕ
  pub row : ℕ
  pub before : earlier < o
  pub each : (c.obligation o).mark ≡ each_use
  pub earlier_each : (c.obligation earlier).mark ≡ each_use
  pub names : (c.obligation o).row ≡ some row
  pub earlier_names : (c.obligation earlier).row ≡ some row

-- The place is that of the lowest obligation of which this holds.
abbrev pub LowestOf : (ℕ → Type 0) → Case → ℕ → Type 0
LowestOf P c o = (o < c.obligations) × P o × ((q : ℕ) → q < o → P q → ⊥)

-- "31 expired and not done": it comes exactly so, in any room.
abbrev pub RefusedUndone : Type 0
RefusedUndone = (s room : List ℕ) (o : ℕ) → ((outcome s room).verdict ≡ refused 31 o) ↔ (ButForDuties s × LowestOf (NotKept (case_of s)) (case_of s) o)

-- "32 each-use and naming the row of an earlier each-use one": exactly so, where 31 does not come.
abbrev pub RefusedNamedTwice : Type 0
RefusedNamedTwice =
    (s room : List ℕ) (o : ℕ) →
    ((outcome s room).verdict ≡ refused 32 o) ↔ (ButForDuties s × ((q : ℕ) → q < (case_of s).obligations → NotKept (case_of s) q → ⊥) × LowestOf (NamedTwice (case_of s)) (case_of s) o)

-- "An unseen row counts as not done", whatever it holds.
abbrev pub UnseenIsNotDone : Type 0
UnseenIsNotDone = (s : List ℕ) (o k : ℕ) → ((case_of s).obligation o).row ≡ some k → is_seen s k ≡ false → CarriedOut (case_of s) o → ⊥

unfoldable pub is_duty_number : ℕ → Bool
is_duty_number n = eqb n 31 || eqb n 32

-- Every outcome but a refusal by 31 or 32 is the same without these checks.
abbrev pub DutiesAlone : Type 0
DutiesAlone =
    (s room : List ℕ) →
    (outcome_without is_duty_number s room ≡ outcome s room)
    ⊎ ((n : ℕ) × (o : ℕ) × (is_duty_number n ≡ true) × (outcome s room ≡ record { verdict = refused n o; room = room }))

-- Where the duties are kept, there is no such refusal; and so where none has expired and no row is named: cases as they were before the request.
abbrev pub KeptAsBefore : Type 0
KeptAsBefore = (s room : List ℕ) → DutiesKept (case_of s) → outcome_without is_duty_number s room ≡ outcome s room

abbrev pub NoneDueKept : Type 0
NoneDueKept = (c : Case) → ((o : ℕ) → o < c.obligations → (c.hour ≤ (c.obligation o).due) × ((c.obligation o).row ≡ none)) → DutiesKept c

-- What the file's own numbers have to do with it. Check 1, both ways.
abbrev pub RefusedForLength : Type 0
RefusedForLength = (s room : List ℕ) (p : ℕ) → ((outcome s room).verdict ≡ refused 1 p) ↔ ((p ≡ 0) × ((length s < 38) ⊎ (47910 < length s)))

-- Where the numbers of the request lie: the audit hour at byte 36, the due hour and the row in the second half of an obligation's eight bytes. An absent row is none.
pub record DutyRead (s : List ℕ) (o : ℕ) : Type 0 where
  pub due : ((case_of s).obligation o).due ≡ word s (offset s obligation_part + 8 * o + 4)
  pub row : (k : ℕ) → (((case_of s).obligation o).row ≡ some k) ↔ ((word s (offset s obligation_part + 8 * o + 6) ≡ k) × (k ≡ absent → ⊥))

abbrev pub DutiesRead : Type 0
DutiesRead =
    (s : List ℕ) → Parted s →
    ((case_of s).hour ≡ word s 36) × (size s obligation_part ≡ 8 * (case_of s).obligations) × ((o : ℕ) → o < (case_of s).obligations → DutyRead s o)

-- What check 7 asks of an obligation.
pub record GoodDuty (s : List ℕ) (o : ℕ) : Type 0 where
  pub mark : Duty (obligation_mark s o)
  pub action : is_ground_action (tree_in (formulas s) (obligation_action s o)) ≡ true
  pub due : obligation_due s o ≡ absent → ⊥
  pub row : (obligation_row s o ≡ absent) ⊎ (obligation_row s o < rows_in (log_of s))

-- Checks 1 to 6 hold.
abbrev pub ToConditions : List ℕ → Type 0
ToConditions s = (in_order (checks_to_log s) ≡ accepts tt) × ((k : ℕ) → k < count s condition_part → bad_condition s (formulas s) k ≡ false)

-- Check 7, both ways: the lowest obligation that is not good.
abbrev pub RefusedBadDuty : Type 0
RefusedBadDuty =
    (s : List ℕ) (o : ℕ) →
    (admission s ≡ refuses 7 o) ↔ (ToConditions s × (o < count s obligation_part) × (GoodDuty s o → ⊥) × ((q : ℕ) → q < o → GoodDuty s q))

-- What check 9 asks of the header.
pub record GoodAudit (s : List ℕ) : Type 0 where
  pub agent : agent_of s < agents_end
  pub action : is_ground_action (tree_in (formulas s) (action_of s)) ≡ true
  pub hour : hour_of s ≡ absent → ⊥

-- Check 9, both ways.
abbrev pub RefusedBadAudit : Type 0
RefusedBadAudit =
    (s : List ℕ) (p : ℕ) →
    (admission s ≡ refuses 9 p)
    ↔ (ToConditions s
    × ((o : ℕ) → o < count s obligation_part → GoodDuty s o)
    × ((k : ℕ) → k < count s label_part → bad_label s (formulas s) k ≡ false)
    × (GoodAudit s → ⊥)
    × (p ≡ 0))

-- "Done" by the file's own numbers: the row is in the log, the agent is among its observers, and it has the obligation's action.
abbrev pub DoneByNumbers : Type 0
DoneByNumbers =
    (s : List ℕ) (o : ℕ) → admission s ≡ accepts tt → o < count s obligation_part →
    CarriedOut (case_of s) o
    ↔ ((obligation_row s o < rows_in (log_of s)) × (is_seen s (obligation_row s o) ≡ true) × (row_action (log_of s) (obligation_row s o) ≡ obligation_action s o))

-- A file of the layout before the request has its first part at 36. It is refused by 1 or 2, at place 0, by every entry point: it is never read by the new layout.
pub record RefusedAsOld (s : List ℕ) (number : ℕ) : Type 0 where
  pub one_or_two : (number ≡ 1) ⊎ (number ≡ 2)
  pub checked : (room : List ℕ) → outcome s room ≡ record { verdict = refused number 0; room = room }
  pub admitted : admission s ≡ refuses number 0
  pub built : (room : List ℕ) → building s room ≡ record { answer = refuses number 0; room = room }
  pub through : (index room : List ℕ) → outcome_through s index room ≡ record { verdict = refused number 0; room = room }

abbrev pub OldIsRefused : Type 0
OldIsRefused = (s : List ℕ) → offset s formula_part ≡ 36 → (number : ℕ) × RefusedAsOld s number
