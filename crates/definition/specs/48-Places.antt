-- Where things stand in the index of a log whose observers are in order, by counting: the words of the laws about it, and of the code that makes it.
use Rattle.std.specs.Prelude.{ℕ, ◌+◌, ◌*◌, ◌≤◌, ◌<◌, Bool, false, ◌≡◌, List, eqb, ltb}
use Rattle.definition.specs.02-Ranges.{any, total, bit}
use Rattle.definition.specs.12-Terms.{agents_end}
use Rattle.definition.specs.15-Records.{Log, rows_in, observers_in, row_from, row_count, observer, bad_span, bad_observer}

-- What checks 2 and 5 ask of the observers of a log: its spans adjoin and cover them, each list is of agents, strictly ascending, there are none without rows, and the parts keep to their limits.
pub record OrderedLog (g : Log) : Type 0 where
  pub spans : (k : ℕ) → k < rows_in g → bad_span (row_from g) (row_count g) (rows_in g) (observers_in g) k ≡ false
  pub lists : (k : ℕ) → k < rows_in g → any (bad_observer g.observers (row_from g k)) (row_count g k) (row_from g k) ≡ false
  pub observed : rows_in g ≡ 0 → observers_in g ≡ 0
  pub rows_few : rows_in g ≤ 1024
  pub observers_few : observers_in g ≤ 4096

-- Entry j of the observers is of row k.
pub record OfRow (g : Log) (k j : ℕ) : Type 0 where
  pub row : k < rows_in g
  pub from : row_from g k ≤ j
  pub below : j < row_from g k + row_count g k

-- How often a number stands among the first j entries of the bytes b of a log's observers.
unfoldable pub times : List ℕ → (a j : ℕ) → ℕ
times b a j = total (λ i. bit (eqb (observer b i) a)) j 0

-- Of a table that has a count for each agent: does the agent have any?
abbrev pub counted : (ℕ → ℕ) → (a : ℕ) → Bool
counted c a = ltb 0 (c a)

-- How many agents below a have some: the agent's place among the heads.
unfoldable pub place_in : (ℕ → ℕ) → (a : ℕ) → ℕ
place_in c a = total (λ x. bit (counted c x)) a 0

-- Where the list of agent a begins: behind the heads, and behind the lists of the agents below it.
unfoldable pub start_in : (ℕ → ℕ) → (a : ℕ) → ℕ
start_in c a = 1 + 3 * place_in c agents_end + total c a 0

-- The same by the observers of a log. In a log in order an agent stands once in each row that it observes, and nowhere else.
abbrev pub counts_of : Log → (a : ℕ) → ℕ
counts_of g a = times g.observers a (observers_in g)

abbrev pub observes : Log → (a : ℕ) → Bool
observes g a = counted (counts_of g) a

abbrev pub place_of : Log → (a : ℕ) → ℕ
place_of g a = place_in (counts_of g) a

abbrev pub start_of : Log → (a : ℕ) → ℕ
start_of g a = start_in (counts_of g) a
