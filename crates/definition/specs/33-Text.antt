-- What the program prints: "`case` and the bytes read .., then `passed D R`, `none owed` or `refused N P`, then `duty N` per obligation and `row N` per log row".
-- A text is a list of ASCII codes.
use Rattle.std.specs.Prelude.{ℕ, zero, suc, ◌+◌, ◌-◌, ◌/◌, ◌%◌, ◌^◌, ◌≤◌, ◌<◌, cond, List, [], ◌∷◌, ◌++◌, length, take, drop, replicate, ltb}
use Rattle.definition.specs.31-Outcome.{Verdict, passed, none_owed, refused, outcome}

-- The last `count` decimal digits of a number, the first of them first.
unfoldable pub digits : (count n : ℕ) → List ℕ
digits zero n = []
digits (suc count) n = digits count (n / 10) ++ ((48 + n % 10) ∷ [])

-- How many digits a 16-bit number has.
unfoldable pub places : ℕ → ℕ
places n = cond (ltb n 10) 1 (cond (ltb n 100) 2 (cond (ltb n 1000) 3 (cond (ltb n 10000) 4 5)))

-- So many digits hold the number, and no fewer: one at least, and no leading zero else.
pub record Fewest (n count : ℕ) : Type 0 where
  pub some : 1 ≤ count
  pub hold : n < 10 ^ count
  pub none_less : 1 < count → 10 ^ (count - 1) ≤ n

-- A 16-bit number in decimal, without leading zeros.
unfoldable pub numeral : ℕ → List ℕ
numeral n = digits (places n) n

abbrev pub space : List ℕ
space = 32 ∷ []

abbrev pub newline : List ℕ
newline = 10 ∷ []

-- A word and a number on a line, and a word and two numbers.
unfoldable pub line : List ℕ → ℕ → List ℕ
line word n = word ++ numeral n ++ newline

unfoldable pub pair : List ℕ → ℕ → ℕ → List ℕ
pair word a b = word ++ numeral a ++ line space b

-- "case "
abbrev pub case_word : List ℕ
case_word = 99 ∷ 97 ∷ 115 ∷ 101 ∷ 32 ∷ []

-- "passed "
abbrev pub passed_word : List ℕ
passed_word = 112 ∷ 97 ∷ 115 ∷ 115 ∷ 101 ∷ 100 ∷ 32 ∷ []

-- "none owed" and a line end
abbrev pub none_owed_line : List ℕ
none_owed_line = 110 ∷ 111 ∷ 110 ∷ 101 ∷ 32 ∷ 111 ∷ 119 ∷ 101 ∷ 100 ∷ 10 ∷ []

-- "refused "
abbrev pub refused_word : List ℕ
refused_word = 114 ∷ 101 ∷ 102 ∷ 117 ∷ 115 ∷ 101 ∷ 100 ∷ 32 ∷ []

-- "duty "
abbrev pub duty_word : List ℕ
duty_word = 100 ∷ 117 ∷ 116 ∷ 121 ∷ 32 ∷ []

-- "row "
abbrev pub row_word : List ℕ
row_word = 114 ∷ 111 ∷ 119 ∷ 32 ∷ []

unfoldable pub verdict_line : Verdict → List ℕ
verdict_line (passed d r) = pair passed_word d r
verdict_line none_owed = none_owed_line
verdict_line (refused n p) = pair refused_word n p

-- A line for each entry.
unfoldable pub lines : List ℕ → List ℕ → List ℕ
lines word [] = []
lines word (n ∷ ns) = line word n ++ lines word ns

-- The room's first entries are the obligations, the ones after them the log rows.
unfoldable pub entry_lines : Verdict → List ℕ → List ℕ
entry_lines (passed d r) room = lines duty_word (take d room) ++ lines row_word (take r (drop d room))
entry_lines none_owed room = []
entry_lines (refused n p) room = []

unfoldable pub report_text : ℕ → Verdict → List ℕ → List ℕ
report_text bytes v room = line case_word bytes ++ verdict_line v ++ entry_lines v room

-- "The program lends a room of 1,088 entries".
unfoldable pub lent_room : List ℕ
lent_room = replicate 1088 0

-- The whole answer to the bytes read.
unfoldable pub answer_text : List ℕ → List ℕ
answer_text s = report_text (length s) (outcome s lent_room).verdict (outcome s lent_room).room

-- What an evaluation unfolds of this file.
unfoldable pub evaluated_text : Unit {0}
unfolding digits places numeral line pair verdict_line lines entry_lines report_text lent_room answer_text
evaluated_text = tt
