-- The three demands, which the README states, as statements about the definition. They are proved in proofs/DemandsProved.
use Rattle.std.specs.Prelude.{ℕ, ◌+◌, ◌*◌, ◌≤◌, ◌<◌, true, false, ◌≡◌, ◌⊎◌, ◌↔◌, List, ◌++◌, length, get_or, drop}
use Rattle.definition.specs.01-Words.{absent}
use Rattle.definition.specs.03-Lists.{Among, Ascending}
use Rattle.definition.specs.04-Checks.{AllHold, FirstFault, Checked, accepts, refuses}
use Rattle.definition.specs.11-Layout.{header_bytes, log_part, record_bytes, offset}
use Rattle.definition.specs.13-Formulas.{Formula, each_use}
use Rattle.definition.specs.14-Book.{book, book_rows, tree_in, bad_formula, repeats_lower}
use Rattle.definition.specs.15-Records.{log_of, rows_in, row_action, bad_action, formulas}
use Rattle.definition.specs.16-Views.{is_seen}
use Rattle.definition.specs.17-Case.{Case, case_of}
use Rattle.definition.specs.18-Admission.{Parted, admission_checks, admission}
use Rattle.definition.specs.19-Rewriting.{strike}
use Rattle.definition.specs.22-Steps.{State, step_checks, state_at}
use Rattle.definition.specs.23-Duties.{duty_checks}
use Rattle.definition.specs.31-Outcome.{owing_checks, end_checks, final_state, all_checks, passed, none_owed, refused, Outcome, outcome}
use Rattle.definition.specs.42-Account.{Owes, Account, DutiesKept}
use Rattle.definition.specs.43-Alike.{Alike}

-- Demand 1: every case file, however damaged, gets an answer; a refusal has the number and place of the first failing check, and keeps every entry of the room.
-- That the checker ends, and touches only what it was lent, is promised of the code; here is the rest.

-- A refusal keeps every entry of the room, and so does "none owed".
abbrev pub RefusalKeepsRoom : Type 0
RefusalKeepsRoom = (s room : List ℕ) (n p : ℕ) → (outcome s room).verdict ≡ refused n p → (outcome s room).room ≡ room

abbrev pub NoneOwedKeepsRoom : Type 0
NoneOwedKeepsRoom = (s room : List ℕ) → (outcome s room).verdict ≡ none_owed → (outcome s room).room ≡ room

-- A pass keeps the room's length, and every entry behind the two lists.
abbrev pub PassKeepsRest : Type 0
PassKeepsRest =
    (s room : List ℕ) (d r : ℕ) → (outcome s room).verdict ≡ passed d r →
    (length (outcome s room).room ≡ length room) × (drop (d + r) (outcome s room).room ≡ drop (d + r) room)

-- Every file and room has one verdict, for `outcome` is a function. It is "refused n p" exactly if the first of all checks that fails does so with number n at place p:
-- that check fails at p and at no lower place, and every check before it holds.
abbrev pub FirstIsTold : Type 0
FirstIsTold = (s room : List ℕ) (n p : ℕ) → ((outcome s room).verdict ≡ refused n p) ↔ FirstFault (all_checks s (length room)) n p

-- All checks of the first k steps hold, each step's in the state that the steps before it leave.
abbrev pub StepsHold : Case → ℕ → Type 0
StepsHold c k = (j : ℕ) → j < k → AllHold (step_checks c j (state_at c j))

-- The same by groups: all groups before that of the failing check hold, and where it is a step's, all checks of the steps before it. Without steps, those of the duties come directly behind 10 and 11.
pub data InTable (s : List ℕ) (room : ℕ) : (number place : ℕ) → Type 0 where
  in_admission : {n p : ℕ} → FirstFault (admission_checks s) n p → InTable s room n p
  in_owing : {n p : ℕ} → AllHold (admission_checks s) → FirstFault (owing_checks (case_of s)) n p → InTable s room n p
  in_step :
      {k n p : ℕ} → AllHold (admission_checks s) → AllHold (owing_checks (case_of s)) → k < (case_of s).steps → StepsHold (case_of s) k →
      FirstFault (step_checks (case_of s) k (state_at (case_of s) k)) n p → InTable s room n p
  in_end :
      {n p : ℕ} → AllHold (admission_checks s) → AllHold (owing_checks (case_of s)) → 0 < (case_of s).steps → StepsHold (case_of s) (case_of s).steps →
      FirstFault (end_checks (case_of s) (final_state (case_of s)) room) n p → InTable s room n p
  in_duties :
      {n p : ℕ} → AllHold (admission_checks s) → AllHold (owing_checks (case_of s)) → (case_of s).steps ≡ 0 →
      FirstFault (duty_checks (case_of s)) n p → InTable s room n p

abbrev pub RefusedByTable : Type 0
RefusedByTable = (s room : List ℕ) (n p : ℕ) → ((outcome s room).verdict ≡ refused n p) ↔ InTable s (length room) n p

-- The place of a check of a step is the step, but for 27, whose place is a row of the book.
abbrev pub StepIsPlace : Type 0
StepIsPlace = (c : Case) (k n p : ℕ) (t : State) → FirstFault (step_checks c k t) n p → ((n ≡ 27) × (p ≡ (c.step k).stray)) ⊎ ((n ≡ 27 → ⊥) × (p ≡ k))

-- Demand 2: a justification passes exactly if it follows the published rules; a pass lists obligations discharged and rows cited, each once, ascending;
-- no each-use obligation is discharged twice.

abbrev pub Passes : List ℕ → List ℕ → Type 0
Passes s room = (d : ℕ) × (r : ℕ) × ((outcome s room).verdict ≡ passed d r)

-- Something is owed, and the justification has an account of it.
abbrev pub Accounted : Case → Type 0
Accounted c = (f : Formula) × Owes c.agent c.action f × Account c f

-- Nothing is owed, and there are no steps.
abbrev pub OwesNothing : Case → Type 0
OwesNothing c = (c.steps ≡ 0) × ((f : Formula) → Owes c.agent c.action f → ⊥)

-- The file is admitted, something is owed, the justification has an account of it, and the duties are kept.
abbrev pub Justified : List ℕ → Type 0
Justified s = (admission s ≡ accepts tt) × Accounted (case_of s) × DutiesKept (case_of s)

-- A step of the rule cites the entry.
abbrev pub Cites : Case → (rule entry : ℕ) → Type 0
Cites c r a = (k : ℕ) × (k < c.steps) × ((c.step k).rule ≡ r) × ((c.step k).argument ≡ a)

-- The lists of what the steps cite: the obligations, by rule 12, and the log rows, by rule 2; each once, ascending.
pub record Cited (c : Case) (duties rows : List ℕ) : Type 0 where
  pub duties_ascend : Ascending duties
  pub rows_ascend : Ascending rows
  pub duties_cited : (o : ℕ) → Among o duties ↔ Cites c 12 o
  pub rows_cited : (k : ℕ) → Among k rows ↔ Cites c 2 k

-- The two lists have n entries together.
abbrev pub Needs : Case → ℕ → Type 0
Needs c n = (duties : List ℕ) × (rows : List ℕ) × Cited c duties rows × (length duties + length rows ≡ n)

-- A file passes in a room exactly if it is justified and the room has the entries needed.
abbrev pub PassesExactly : Type 0
PassesExactly = (s room : List ℕ) → Passes s room ↔ (Justified s × (n : ℕ) × Needs (case_of s) n × (n ≤ length room))

-- Check 23 refuses exactly a justified file in a room with fewer entries than it needs, and tells how many it needs.
abbrev pub RefusedForRoom : Type 0
RefusedForRoom = (s room : List ℕ) (n : ℕ) → ((outcome s room).verdict ≡ refused 23 n) ↔ (Justified s × Needs (case_of s) n × (length room < n))

-- The verdict is "none owed" exactly if the file is admitted, has no steps, nothing is owed, and the duties are kept.
abbrev pub NoneOwedExactly : Type 0
NoneOwedExactly = (s room : List ℕ) → ((outcome s room).verdict ≡ none_owed) ↔ ((admission s ≡ accepts tt) × OwesNothing (case_of s) × DutiesKept (case_of s))

-- What a pass writes: first the obligations, then the rows; the counts are the lists' lengths.
pub record Lists (s room : List ℕ) (d r : ℕ) : Type 0 where
  pub duties : List ℕ
  pub rows : List ℕ
  pub room_is : (outcome s room).room ≡ duties ++ rows ++ drop (d + r) room
  pub duties_count : length duties ≡ d
  pub rows_count : length rows ≡ r
  pub cited : Cited (case_of s) duties rows

abbrev pub PassLists : Type 0
PassLists = (s room : List ℕ) (d r : ℕ) → (outcome s room).verdict ≡ passed d r → Lists s room d r

-- No two steps of a passed case discharge the same each-use obligation.
abbrev pub EachUseOnce : Type 0
EachUseOnce =
    (s room : List ℕ) (d r : ℕ) → (outcome s room).verdict ≡ passed d r →
    (j k o : ℕ) → j < (case_of s).steps → k < (case_of s).steps →
    ((case_of s).step j).rule ≡ 12 → ((case_of s).step k).rule ≡ 12 → ((case_of s).step j).argument ≡ o → ((case_of s).step k).argument ≡ o →
    ((case_of s).obligation o).mark ≡ each_use → j ≡ k

-- Demand 3: a log row that the agent does not see does not show through in the verdict, the place, the counts or the room, not even by which refusal comes;
-- the answer is the one for the log with every unseen row struck out.

-- An entry point, as the definition has it: what it answers to all that it is lent, every lent buffer included; when two inputs are alike to the agent; which inputs are left aside;
-- the input with every unseen row struck out; and which inputs that mends.
pub record Entry (Input Answer : Type 0) : Type 1 where
  pub answer : Input → Answer
  pub is_alike : Input → Input → Type 0
  pub is_aside : Input → Type 0
  pub strike_out : Input → Input
  pub is_mended : Input → Type 0

-- The hidden-row rule: two inputs that are alike to the agent have the same answer, unless one of them is left aside.
abbrev pub HidesRows : {I A : Type 0} → Entry I A → Type 0
HidesRows {I} e = (i j : I) → e.is_alike i j → (e.is_aside i → ⊥) → (e.is_aside j → ⊥) → e.answer i ≡ e.answer j

-- The answer to every input is the one for the input with every unseen row struck out, unless that mends it.
abbrev pub AnswersStruck : {I A : Type 0} → Entry I A → Type 0
AnswersStruck {I} e = (i : I) → (e.answer i ≡ e.answer (e.strike_out i)) ⊎ e.is_mended i

-- What is left aside: refusals by 1, 2 and 5. These checks look at the file as it is made, unseen rows included.
abbrev pub LeftAside : (number : ℕ) → Type 0
LeftAside n = (n ≡ 1) ⊎ ((n ≡ 2) ⊎ (n ≡ 5))

-- One of these checks refuses; `refusal n p` says that check n does, at p.
abbrev pub RefusedAside : (refusal : (number place : ℕ) → Type 0) → Type 0
RefusedAside refusal = (n : ℕ) × (p : ℕ) × refusal n p × LeftAside n

-- Row p is unseen, and its action is at fault: striking it out mends the row.
abbrev pub Mended : List ℕ → (row : ℕ) → Type 0
Mended s p = (is_seen s p ≡ false) × (bad_action (formulas s) (row_action (log_of s) p) ≡ true)

-- A case file, and the room for the answer.
pub record FileAndRoom : Type 0 where
  pub file : List ℕ
  pub room : List ℕ

-- The check of a file: verdict, number, place, counts and every entry of the room. Refusals by 1, 2 and 5 are left aside, and one at an unseen row whose action is at fault is mended.
abbrev pub checking : Entry FileAndRoom Outcome
checking =
    record {
      answer = λ i. outcome i.file i.room;
      is_alike = λ i j. Alike i.file j.file × (i.room ≡ j.room);
      is_aside = λ i. RefusedAside (λ n p. (outcome i.file i.room).verdict ≡ refused n p);
      strike_out = λ i. record { file = strike i.file; room = i.room };
      is_mended = λ i. (p : ℕ) × ((outcome i.file i.room).verdict ≡ refused 5 p) × Mended i.file p;
    }

-- The admission of a file, checks 1 to 9.
abbrev pub admitting : Entry (List ℕ) (Checked (Unit {0}))
admitting =
    record {
      answer = admission;
      is_alike = Alike;
      is_aside = λ s. RefusedAside (λ n p. admission s ≡ refuses n p);
      strike_out = strike;
      is_mended = λ s. (p : ℕ) × (admission s ≡ refuses 5 p) × Mended s p;
    }

abbrev pub UnseenRowsAreUnseen : Type 0
UnseenRowsAreUnseen = HidesRows checking × HidesRows admitting

abbrev pub AsIfStruck : Type 0
AsIfStruck = AnswersStruck checking × AnswersStruck admitting

-- "Striking out a row makes its action absent and changes no other byte." Byte i is not of the action of an unseen row.
abbrev pub NoUnseenAction : List ℕ → (byte : ℕ) → Type 0
NoUnseenAction s i = (k : ℕ) → k < rows_in (log_of s) → is_seen s k ≡ false → (i ≡ offset s log_part + record_bytes log_part * k) ⊎ (i ≡ offset s log_part + record_bytes log_part * k + 1) → ⊥

-- The header is made of bytes.
abbrev pub HeaderOfBytes : List ℕ → Type 0
HeaderOfBytes s = (i : ℕ) → i < header_bytes → get_or s i 0 < 256

-- That a byte of the header stays is said of such a header.
abbrev pub StrikesUnseen : Type 0
StrikesUnseen =
    (s : List ℕ) → Parted s →
    (length (strike s) ≡ length s)
    × ((k : ℕ) → k < rows_in (log_of s) → is_seen s k ≡ false → row_action (log_of (strike s)) k ≡ absent)
    × ((i : ℕ) → NoUnseenAction s i → (header_bytes ≤ i) ⊎ HeaderOfBytes s → get_or (strike s) i 0 ≡ get_or s i 0)

-- Beside the demands, what lets the code compare numbers. "No row repeats another, so one meaning has one number": in a book that checks 3 and 4 let pass, equal trees have equal numbers.
abbrev pub OneMeaningOneNumber : Type 0
OneMeaningOneNumber =
    (s : List ℕ) →
    ((k : ℕ) → k < book_rows s → bad_formula s (book s) k ≡ false) → ((k : ℕ) → k < book_rows s → repeats_lower s k ≡ false) →
    (j k : ℕ) → j < book_rows s → k < book_rows s → tree_in (book s) j ≡ tree_in (book s) k → j ≡ k
