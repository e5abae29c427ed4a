-- The column of sizes on example books, computed from the definition: one list, one claim. No book of 1,024 rows is among them, which an evaluation does not reach: `TellsSizes` is of every length.
use Rattle.std.specs.Prelude.{ℕ, ◌+◌, ◌%◌, List, [], ◌∷◌, ◌++◌, map, ◌≡◌, refl, length, take, drop}
use Rattle.definition.specs.01-Words.{absent}
use Rattle.definition.specs.02-Ranges.{listed}
use Rattle.definition.specs.03-Lists.{join_all}
use Rattle.definition.specs.04-Checks.{Checked, accepts, refuses}
use Rattle.definition.specs.11-Layout.{formula_part, part}
use Rattle.definition.specs.13-Formulas.{each_use, once}
use Rattle.definition.specs.14-Book.{book_admission, size_column}
use Rattle.definition.specs.51-Files.{formula_row, predicate_row, owns_row, says_row, and_row, implies_row, after_row, communicates_row, creates_row, user_action_row}
use Rattle.definition.specs.52-Evaluation.{evaluated}
use Rattle.definition.specs.53-Desk.{grant, built}

-- What a book's checks come to, and the column then.
pub record Sized : Type 0 where
  pub answer : Checked (Unit {0})
  pub column : List ℕ

-- The column that is lent in the examples: all bytes above 64, so that none is a size, and neighbours differ.
unfoldable pub lent_column : List ℕ
lent_column = listed (λ k. 100 + k % 151) 1024 0

pub record SizeCase : Type 0 where
  pub bytes : List ℕ
  pub gives : Sized

unfoldable pub computed_sizes : SizeCase → Sized
computed_sizes c = record { answer = book_admission c.bytes; column = size_column c.bytes lent_column }

unfoldable pub expected_sizes : SizeCase → Sized
expected_sizes c = c.gives

-- The bytes give this answer; the column begins with these sizes, and the rest is as lent.
unfoldable pub tells : List ℕ → Checked (Unit {0}) → (sizes : List ℕ) → SizeCase
tells bytes answer sizes = record { bytes = bytes; gives = record { answer = answer; column = sizes ++ drop (length sizes) lent_column } }

-- Each row is the one before it twice; the last one says it: 1, 3, 7, 15, 31, 63 and 64 nodes.
unfoldable pub doubled : List (List ℕ)
doubled = predicate_row 7 0 1 2 ∷ and_row 0 0 ∷ and_row 1 1 ∷ and_row 2 2 ∷ and_row 3 3 ∷ and_row 4 4 ∷ says_row 0 5 1 ∷ []

unfoldable pub doubled_sizes : List ℕ
doubled_sizes = 1 ∷ 3 ∷ 7 ∷ 15 ∷ 31 ∷ 63 ∷ 64 ∷ []

-- The same with a row of 65 nodes, or with row 1 again, and a good row behind that.
unfoldable pub with_large : List (List ℕ)
with_large = doubled ++ says_row 1 6 0 ∷ and_row 0 1 ∷ []

unfoldable pub with_repeat : List (List ℕ)
with_repeat = doubled ++ and_row 0 0 ∷ implies_row 0 7 ∷ []

-- A row of each kind, for-alls of both sorts. Terms do not count: the first predicate has none and the last one three, variables and a parameter; each has one node. An action does count, as X of 6 and 7.
unfoldable pub of_each_kind : List (List ℕ)
of_each_kind =
    predicate_row 7 absent absent absent
    ∷ owns_row 40960 40969
    ∷ says_row 32768 1 40960
    ∷ and_row 0 2
    ∷ formula_row 4 0 3 absent absent
    ∷ formula_row 4 1 4 absent absent
    ∷ implies_row 5 1
    ∷ user_action_row 7 40960 40968 32768
    ∷ after_row each_use 7 6
    ∷ after_row once 7 0
    ∷ communicates_row 40961 9 32799
    ∷ creates_row 40960 32800
    ∷ after_row once 10 8
    ∷ predicate_row 7 40968 40960 32800
    ∷ []

unfoldable pub size_cases : List SizeCase
size_cases =
    -- no rows; the book of Grant; all kinds; the largest size
    tells [] (accepts tt) []
    ∷ tells (part grant formula_part) (accepts tt) (1 ∷ 1 ∷ 1 ∷ 2 ∷ 2 ∷ [])
    ∷ tells (join_all of_each_kind) (accepts tt) (1 ∷ 1 ∷ 2 ∷ 4 ∷ 5 ∷ 6 ∷ 8 ∷ 1 ∷ 10 ∷ 3 ∷ 4 ∷ 1 ∷ 15 ∷ 1 ∷ [])
    ∷ tells (join_all doubled) (accepts tt) doubled_sizes
    -- 2: a byte too few; a row too many
    ∷ tells (take 55 (join_all doubled)) (refuses 2 0) []
    ∷ tells (join_all (listed (λ k. predicate_row 7 k absent absent) 1025 0)) (refuses 2 0) []
    -- 3: a formula of 65 nodes, and a good row behind it
    ∷ tells (join_all with_large) (refuses 3 7) doubled_sizes
    -- the same by its action
    ∷ tells (join_all (doubled ++ user_action_row 7 0 absent absent ∷ after_row once 7 5 ∷ and_row 0 1 ∷ [])) (refuses 3 8) (doubled_sizes ++ 1 ∷ [])
    -- "and" of two formulas of 64 nodes
    ∷ tells (join_all (doubled ++ and_row 6 6 ∷ [])) (refuses 3 7) doubled_sizes
    -- no action where one is due
    ∷ tells (join_all (predicate_row 1 0 1 2 ∷ predicate_row 2 0 1 2 ∷ after_row once 0 1 ∷ and_row 0 1 ∷ [])) (refuses 3 2) (1 ∷ 1 ∷ [])
    -- the first row, which stands there again behind
    ∷ tells (join_all (and_row 0 0 ∷ doubled)) (refuses 3 0) []
    -- 4: a repeat, and a good row behind it
    ∷ tells (join_all with_repeat) (refuses 4 7) (doubled_sizes ++ 3 ∷ 5 ∷ [])
    -- a repeat with a bad row behind it: 3 comes first, and the repeat has its size
    ∷ tells (join_all (predicate_row 7 0 1 2 ∷ and_row 0 0 ∷ and_row 0 0 ∷ and_row 3 0 ∷ [])) (refuses 3 3) (1 ∷ 3 ∷ 3 ∷ [])
    ∷ []

-- What an evaluation of these unfolds.
unfoldable pub built_sizes : Unit {0}
unfolding built lent_column computed_sizes expected_sizes tells doubled doubled_sizes with_large with_repeat of_each_kind size_cases
built_sizes = tt

pub sizes_agree : map computed_sizes size_cases ≡ map expected_sizes size_cases
unfolding evaluated built_sizes
sizes_agree = refl
