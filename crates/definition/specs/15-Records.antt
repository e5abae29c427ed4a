-- The records of a case file, and checks 5 to 9. Below, l are the trees of the file's formulas.
use Rattle.std.specs.Prelude.{ℕ, ◌+◌, ◌-◌, Bool, cond, not, ◌&&◌, ◌||◌, List, [], ◌∷◌, eqb, ltb, leb}
use Rattle.definition.specs.01-Words.{absent}
use Rattle.definition.specs.02-Ranges.{any}
use Rattle.definition.specs.04-Checks.{Check, single, each}
use Rattle.definition.specs.11-Layout.{log_part, observer_part, condition_part, obligation_part, label_part, step_part, premise_part, formula_part, part, records_in, field_in, field, count, agent_of, action_of, hour_of}
use Rattle.definition.specs.12-Terms.{agents, class_of, is_object}
use Rattle.definition.specs.13-Formulas.{Formula, each_use, once, is_policy, is_action, is_predicate, closed, is_ground}
use Rattle.definition.specs.14-Book.{tree_in, book}

-- The trees of the file's formulas.
unfoldable pub formulas : List ℕ → List Formula
formulas s = book (part s formula_part)

-- A log: the bytes of its rows, and those of its observers. All that is said of a log row is said of these, and the file tells where they lie.
pub record Log : Type 0 where
  pub rows : List ℕ
  pub observers : List ℕ

unfoldable pub log_of : List ℕ → Log
log_of s = record { rows = part s log_part; observers = part s observer_part }

-- How many rows and observer entries a log has.
unfoldable pub rows_in : Log → ℕ
rows_in g = records_in g.rows log_part

unfoldable pub observers_in : Log → ℕ
observers_in g = records_in g.observers observer_part

-- "Log row: ground action, observer offset and count in entries."
unfoldable pub row_action : Log → ℕ → ℕ
row_action g k = field_in g.rows log_part k 0

unfoldable pub row_from : Log → ℕ → ℕ
row_from g k = field_in g.rows log_part k 2

unfoldable pub row_count : Log → ℕ → ℕ
row_count g k = field_in g.rows log_part k 4

-- Entry j of the bytes b of a log's observers.
unfoldable pub observer : List ℕ → ℕ → ℕ
observer b j = field_in b observer_part j 0

unfoldable pub condition_formula : List ℕ → ℕ → ℕ
condition_formula s k = field s condition_part k 0

unfoldable pub obligation_mark : List ℕ → ℕ → ℕ
obligation_mark s k = field s obligation_part k 0

unfoldable pub obligation_action : List ℕ → ℕ → ℕ
obligation_action s k = field s obligation_part k 2

-- Document 02, request 6: "a due hour .. and the log row that did it".
unfoldable pub obligation_due : List ℕ → ℕ → ℕ
obligation_due s k = field s obligation_part k 4

unfoldable pub obligation_row : List ℕ → ℕ → ℕ
obligation_row s k = field s obligation_part k 6

unfoldable pub label_mark : List ℕ → ℕ → ℕ
label_mark s k = field s label_part k 0

unfoldable pub label_formula : List ℕ → ℕ → ℕ
label_formula s k = field s label_part k 2

-- "Step: rule, formula, argument, premise offset and count."
unfoldable pub step_rule : List ℕ → ℕ → ℕ
step_rule s k = field s step_part k 0

unfoldable pub step_formula : List ℕ → ℕ → ℕ
step_formula s k = field s step_part k 2

unfoldable pub step_argument : List ℕ → ℕ → ℕ
step_argument s k = field s step_part k 4

unfoldable pub step_from : List ℕ → ℕ → ℕ
step_from s k = field s step_part k 6

unfoldable pub step_count : List ℕ → ℕ → ℕ
step_count s k = field s step_part k 8

unfoldable pub premise_step : List ℕ → ℕ → ℕ
premise_step s j = field s premise_part j 0

-- Where span k is due to begin: at 0, or where the one before ended.
unfoldable pub span_due : (from len : ℕ → ℕ) → (k : ℕ) → ℕ
span_due from len k = cond (eqb k 0) 0 (from (k - 1) + len (k - 1))

-- A span over m entries is at fault if it does not begin where it is due, ends beyond the entries, or is the last and ends before their end.
unfoldable pub span_fault : (due from len : ℕ) → (last : Bool) → (m : ℕ) → Bool
span_fault due from len last m = not (eqb from due) || ltb m (from + len) || (last && ltb (from + len) m)

-- "These spans adjoin from 0 and cover all .. (a shortfall is the last row's)": span k of n, over m entries, is at fault. Log rows and steps have spans alike.
unfoldable pub bad_span : (from len : ℕ → ℕ) → (n m k : ℕ) → Bool
bad_span from len n m k = span_fault (span_due from len k) (from k) (len k) (eqb (k + 1) n) m

unfoldable pub is_ground_action : Formula → Bool
is_ground_action f = is_action f && is_ground f

-- "Mark 1 (each use) or 2 (once)."
unfoldable pub is_duty : ℕ → Bool
is_duty m = eqb m each_use || eqb m once

-- Entry j of a list that begins at entry `from` is at fault if it is no agent, or not above the entry before it.
unfoldable pub bad_observer : List ℕ → (from j : ℕ) → Bool
bad_observer b from j =
    not (is_object agents (class_of (observer b j)))
    || (not (eqb j from) && leb (observer b j) (observer b (j - 1)))

-- The action of a row is at fault if it is neither absent nor a ground action. "A row's action may be absent: struck out."
unfoldable pub bad_action : List Formula → ℕ → Bool
bad_action l a = not (eqb a absent || is_ground_action (tree_in l a))

-- Check 5: "bad log row", place: row. The action; the spans adjoin and cover; "each list strictly ascending agents".
unfoldable pub bad_log_row : Log → List Formula → ℕ → Bool
bad_log_row g l k =
    bad_action l (row_action g k)
    || bad_span (row_from g) (row_count g) (rows_in g) (observers_in g) k
    || any (bad_observer g.observers (row_from g k)) (row_count g k) (row_from g k)

-- Check 6: "bad condition", place: entry. "A ground predicate, or absent when no reading was certified."
unfoldable pub bad_condition : List ℕ → List Formula → ℕ → Bool
bad_condition s l k =
    let f = tree_in l (condition_formula s k) in
    not (eqb (condition_formula s k) absent || (is_predicate f && is_ground f))

-- The row that an obligation names, of a log with so many rows, is at fault if it is neither absent nor in the log. "Absent: not done; beyond the log: refusal 7."
unfoldable pub bad_row_named : (rows n : ℕ) → Bool
bad_row_named rows n = not (eqb n absent || ltb n rows)

-- Check 7: "bad obligation", place: entry. "Mark 1 (each use) or 2 (once), ground action", and "a due hour (absent: refusal 7)".
unfoldable pub bad_obligation : List ℕ → List Formula → (rows : ℕ) → ℕ → Bool
bad_obligation s l rows k =
    not (is_duty (obligation_mark s k) && is_ground_action (tree_in l (obligation_action s k)))
    || eqb (obligation_due s k) absent
    || bad_row_named rows (obligation_row s k)

-- Check 8: "bad label", place: entry. "Mark 0 and a closed policy, or mark 1 or 2 and a closed action."
unfoldable pub bad_label : List ℕ → List Formula → ℕ → Bool
bad_label s l k =
    let f = tree_in l (label_formula s k) in
    not (closed f && ((eqb (label_mark s k) 0 && is_policy f) || (is_duty (label_mark s k) && is_action f)))

-- Check 9: "agent no agent, or action no ground action", or the audit hour absent; place 0.
unfoldable pub bad_audit : List ℕ → List Formula → Bool
bad_audit s l = not (is_object agents (class_of (agent_of s)) && is_ground_action (tree_in l (action_of s))) || eqb (hour_of s) absent

-- Check 5.
unfoldable pub log_checks : Log → List Formula → List Check
log_checks g l = each 5 (rows_in g) (bad_log_row g l) ∷ []

-- Checks 6 to 9.
unfoldable pub record_checks : List ℕ → List Check
record_checks s =
    let l = formulas s in
    each 6 (count s condition_part) (bad_condition s l)
    ∷ each 7 (count s obligation_part) (bad_obligation s l (rows_in (log_of s)))
    ∷ each 8 (count s label_part) (bad_label s l)
    ∷ single 9 0 (bad_audit s l)
    ∷ []

-- What an evaluation unfolds of this file.
unfoldable pub evaluated_records : Unit {0}
unfolding formulas log_of rows_in observers_in row_action row_from row_count observer condition_formula obligation_mark obligation_action obligation_due obligation_row label_mark label_formula step_rule step_formula step_argument step_from step_count premise_step span_due span_fault bad_span is_ground_action is_duty bad_observer bad_action bad_log_row bad_condition bad_row_named bad_obligation bad_label bad_audit log_checks record_checks
evaluated_records = tt
