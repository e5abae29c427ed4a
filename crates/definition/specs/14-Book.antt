-- The formula part of a case file: rows of eight bytes, their trees, checks 3 and 4, the column of sizes, and which rows a tree has.
use Rattle.std.specs.Prelude.{ℕ, zero, suc, ◌+◌, ◌*◌, ◌/◌, ◌%◌, Bool, true, false, cond, not, ◌&&◌, ◌||◌, List, [], ◌∷◌, ◌++◌, map, length, get_or, drop, eqb, ltb, leb}
use Rattle.definition.specs.01-Words.{word, absent}
use Rattle.definition.specs.02-Ranges.{any, lowest, listed}
use Rattle.definition.specs.03-Lists.{is_among, join_all}
use Rattle.definition.specs.04-Checks.{Check, single, each, Checked, in_order}
use Rattle.definition.specs.11-Layout.{row_bytes, formula_part, most_records}
use Rattle.definition.specs.12-Terms.{Sort, agents, data_objects, other, class_of, has_sort, is_term}
use Rattle.definition.specs.13-Formulas.{Formula, predicate, owns, says, and, for_all, implies, after, communicates, creates, user_action, no_formula, each_use, once, is_policy, is_action, nodes, bound_variable, data_variable, is_sought, has}

-- "Kind (one byte), code (one byte), fields X, Y, Z."
pub record Row : Type 0 where
  pub kind : ℕ
  pub code : ℕ
  pub x : ℕ
  pub y : ℕ
  pub z : ℕ

unfoldable pub row_at : List ℕ → ℕ → Row
row_at s k =
    record {
      kind = get_or s (row_bytes * k) 0;
      code = get_or s (row_bytes * k + 1) 0;
      x = word s (row_bytes * k + 2);
      y = word s (row_bytes * k + 4);
      z = word s (row_bytes * k + 6);
    }

-- The number of rows of a book.
unfoldable pub book_rows : List ℕ → ℕ
book_rows s = length s / row_bytes

-- "Code 0 agents, 1 data."
unfoldable pub sort_of_code : ℕ → Sort
sort_of_code c = cond (eqb c 0) agents data_objects

-- Tree k of a list of trees; a number beyond it names no formula.
unfoldable pub tree_in : List Formula → ℕ → Formula
tree_in l k = get_or l k no_formula

-- A row as a tree, over the trees of the lower rows: the kinds 0 to 10 in their order.
unfoldable pub tree_of : List Formula → Row → Formula
tree_of l r =
    get_or
    (predicate r.code r.x r.y r.z
    ∷ owns r.x r.y
    ∷ says r.x (tree_in l r.y) r.z
    ∷ and (tree_in l r.x) (tree_in l r.y)
    ∷ for_all (sort_of_code r.code) (tree_in l r.x)
    ∷ implies (tree_in l r.x) (tree_in l r.y)
    ∷ after each_use (tree_in l r.x) (tree_in l r.y)
    ∷ after once (tree_in l r.x) (tree_in l r.y)
    ∷ communicates r.x (tree_in l r.y) r.z
    ∷ creates r.x r.y
    ∷ user_action r.code r.x r.y r.z
    ∷ [])
    r.kind no_formula

-- The trees of the first n rows, and that of row n behind them.
unfoldable pub grow : List ℕ → ℕ → List Formula → List Formula
grow s n l = l ++ (tree_of l (row_at s n) ∷ [])

-- The trees of the first n rows.
unfoldable pub trees : List ℕ → ℕ → List Formula
trees s zero = []
trees s (suc n) = grow s n (trees s n)

-- The trees of all rows.
unfoldable pub book : List ℕ → List Formula
book s = trees s (book_rows s)

unfoldable pub all_absent : List ℕ → Bool
all_absent [] = true
all_absent (t ∷ ts) = eqb t absent && all_absent ts

-- "Up to three terms, absent ones last", and likewise "up to two more terms".
unfoldable pub terms_first : List ℕ → Bool
terms_first [] = true
terms_first (t ∷ ts) = cond (is_term (class_of t)) (terms_first ts) (all_absent (t ∷ ts))

-- "Agent and data places take that sort."
unfoldable pub in_place : Sort → ℕ → Bool
in_place σ t = has_sort σ (class_of t)

-- "Children have lower row numbers and are policies but for X of 6 and 7", which are actions.
unfoldable pub policy_below : List Formula → ℕ → ℕ → Bool
policy_below l k n = ltb n k && is_policy (tree_in l n)

unfoldable pub action_below : List Formula → ℕ → ℕ → Bool
action_below l k n = ltb n k && is_action (tree_in l n)

-- "In a for-all's body, variable 0 never has the other sort": nor does the same variable under d more for-alls, where its number is d.
unfoldable pub binds_own_sort : Sort → Formula → Bool
binds_own_sort σ f = not (has (bound_variable (other σ)) 0 f)

-- The shapes of fields that kinds share. "Unlisted codes are 0 and unlisted fields absent."
-- Kinds 1 and 9: agent X, data Y.
unfoldable pub agent_and_data : Row → Bool
agent_and_data r = eqb r.code 0 && in_place agents r.x && in_place data_objects r.y && eqb r.z absent

-- Kinds 2 and 8: agent X, policy Y, agent Z.
unfoldable pub agent_policy_agent : List Formula → ℕ → Row → Bool
agent_policy_agent l k r = eqb r.code 0 && in_place agents r.x && policy_below l k r.y && in_place agents r.z

-- Kinds 3 and 5: policies X and Y.
unfoldable pub two_policies : List Formula → ℕ → Row → Bool
two_policies l k r = eqb r.code 0 && policy_below l k r.x && policy_below l k r.y && eqb r.z absent

-- Kind 4: "code 0 agents, 1 data; body X".
unfoldable pub sort_and_body : List Formula → ℕ → Row → Bool
sort_and_body l k r =
    leb r.code 1 && policy_below l k r.x && eqb r.y absent && eqb r.z absent && binds_own_sort (sort_of_code r.code) (tree_in l r.x)

-- Kinds 6 and 7: action X, then policy Y.
unfoldable pub action_and_policy : List Formula → ℕ → Row → Bool
action_and_policy l k r = eqb r.code 0 && action_below l k r.x && policy_below l k r.y && eqb r.z absent

-- What code and fields have to be for each of the kinds 0 to 10, in their order, as row k over the trees l.
unfoldable pub fit_table : List Formula → ℕ → Row → List Bool
fit_table l k r =
    terms_first (r.x ∷ r.y ∷ r.z ∷ [])
    ∷ agent_and_data r
    ∷ agent_policy_agent l k r
    ∷ two_policies l k r
    ∷ sort_and_body l k r
    ∷ two_policies l k r
    ∷ action_and_policy l k r
    ∷ action_and_policy l k r
    ∷ agent_policy_agent l k r
    ∷ agent_and_data r
    ∷ (in_place agents r.x && terms_first (r.y ∷ r.z ∷ []))
    ∷ []

-- Are code and fields those that the row's kind has?
unfoldable pub fields_fit : List Formula → ℕ → Row → Bool
fields_fit l k r = get_or (fit_table l k r) r.kind false

-- Check 3: "bad formula row", place: row. l are the trees of the book s.
unfoldable pub bad_formula : List ℕ → List Formula → ℕ → Bool
bad_formula s l k = not (fields_fit l k (row_at s k)) || ltb 64 (nodes (tree_in l k))

unfoldable pub same_row : Row → Row → Bool
same_row q r = eqb q.kind r.kind && eqb q.code r.code && eqb q.x r.x && eqb q.y r.y && eqb q.z r.z

-- Check 4: "repeats a lower row", place: row. "No row repeats another, so one meaning has one number."
unfoldable pub repeats_lower : List ℕ → ℕ → Bool
repeats_lower s k = any (λ j. same_row (row_at s j) (row_at s k)) k 0

-- The bytes are no whole number of rows, or more than 1,024.
unfoldable pub is_misshapen : List ℕ → Bool
is_misshapen s = not (eqb (length s % row_bytes) 0) || ltb (most_records formula_part) (book_rows s)

-- Checks 3 and 4 of a book.
unfoldable pub book_checks : List ℕ → List Check
book_checks s =
    let l = book s in
    each 3 (book_rows s) (bad_formula s l)
    ∷ each 4 (book_rows s) (repeats_lower s)
    ∷ []

-- A book by itself, any bytes. Of misshapen ones it says what check 2 says of the formula part.
unfoldable pub book_admission : List ℕ → Checked (Unit {0})
book_admission s = in_order (single 2 formula_part (is_misshapen s) ∷ book_checks s)

-- Document 02, request 4, tells of the sizes "for each admitted row". Where a check refuses, the column holds those of the rows below the first bad one; of all, if none is bad; of none, if the bytes are misshapen. This is how many.
unfoldable pub sized_rows : List ℕ → ℕ
sized_rows s =
    let l = book s in
    cond (is_misshapen s) 0 (lowest (bad_formula s l) (book_rows s) 0)

-- "A column of 1,024 bytes" is lent, and this is the column after the checks: "byte k exactly the nodes of row k's tree" for each of these rows, and every other byte as lent. No check reads it.
unfoldable pub size_column : (s lent : List ℕ) → List ℕ
size_column s lent =
    let l = book s in
    let rows = sized_rows s in
    listed (λ k. nodes (tree_in l k)) rows 0 ++ drop rows lent

-- The lower rows that a row holds, by its kind, 0 to 10.
unfoldable pub children_of : Row → List ℕ
children_of r =
    get_or
    ([]
    ∷ []
    ∷ (r.y ∷ [])
    ∷ (r.x ∷ r.y ∷ [])
    ∷ (r.x ∷ [])
    ∷ (r.x ∷ r.y ∷ [])
    ∷ (r.x ∷ r.y ∷ [])
    ∷ (r.x ∷ r.y ∷ [])
    ∷ (r.y ∷ [])
    ∷ []
    ∷ []
    ∷ [])
    r.kind []

-- The rows of row k's tree, its own included, and at most so many deep.
unfoldable pub rows_within : List ℕ → (depth k : ℕ) → List ℕ
rows_within s zero k = []
rows_within s (suc depth) k = k ∷ join_all (map (rows_within s depth) (children_of (row_at s k)))

-- All of them: children have lower numbers, so a tree is no deeper than the book is long.
unfoldable pub rows_of : List ℕ → ℕ → List ℕ
rows_of s k = rows_within s (book_rows s) k

-- Document 02, request 2: a row that "itself holds" a data variable, in one of its fields. To have such a row below it is not to hold one.
unfoldable pub holds_variable : Row → Bool
holds_variable r = is_sought data_variable 0 r.x || is_sought data_variable 0 r.y || is_sought data_variable 0 r.z

-- "The lowest row reached from the formula that itself holds one"; where there is none, the number of rows.
unfoldable pub stray_row : List ℕ → ℕ → ℕ
stray_row s k =
    let rows = rows_of s k in
    lowest (λ j. is_among j rows && holds_variable (row_at s j)) (book_rows s) 0

-- What an evaluation unfolds of this file.
unfoldable pub evaluated_book : Unit {0}
unfolding row_at book_rows sort_of_code tree_in tree_of grow trees book all_absent terms_first in_place policy_below action_below binds_own_sort agent_and_data agent_policy_agent two_policies sort_and_body action_and_policy fit_table fields_fit bad_formula same_row repeats_lower is_misshapen book_checks book_admission sized_rows size_column children_of rows_within rows_of holds_variable stray_row
evaluated_book = tt
