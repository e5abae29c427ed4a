-- Files put together from what they hold; the file with a part, or a number of the header, in place of its own; and the file with every unseen row struck out.
use Rattle.std.specs.Prelude.{ℕ, ◌+◌, ◌*◌, ◌/◌, ◌%◌, Bool, cond, not, ◌&&◌, ◌||◌, List, [], ◌∷◌, ◌++◌, length, ltb}
use Rattle.definition.specs.01-Words.{word, words}
use Rattle.definition.specs.02-Ranges.{any, listed, update}
use Rattle.definition.specs.03-Lists.{join_all}
use Rattle.definition.specs.11-Layout.{header_bytes, log_part, record_bytes, agent_of, part, bad_length, faulty_part}
use Rattle.definition.specs.15-Records.{Log, log_of}
use Rattle.definition.specs.16-Views.{seen_in}

-- Number i of the header: 0 is the agent, 1 the audited action, 18 the audit hour, behind the eight pairs.
unfoldable pub header_number : List ℕ → ℕ → ℕ
header_number s i = word s (2 * i)

-- What a file holds: the numbers of its header, and the bytes of its parts by their places.
pub record Contents : Type 0 where
  pub numbers : ℕ → ℕ
  pub parts : ℕ → List ℕ

unfoldable pub contents_of : List ℕ → Contents
contents_of s = record { numbers = header_number s; parts = part s }

-- The header's pairs of offset and length, for parts that begin at `at`.
unfoldable pub pairs : ℕ → List (List ℕ) → List ℕ
pairs at [] = []
pairs at (p ∷ ps) = at ∷ length p ∷ pairs (at + length p) ps

-- The file of a header and these parts.
unfoldable pub laid_out : (agent action hour : ℕ) → List (List ℕ) → List ℕ
laid_out agent action hour parts = words (agent ∷ action ∷ pairs header_bytes parts ++ hour ∷ []) ++ join_all parts

-- The file that holds this.
unfoldable pub written : Contents → List ℕ
written c = laid_out (c.numbers 0) (c.numbers 1) (c.numbers 18) (listed c.parts 8 0)

-- The file with these bytes as its part p. The other parts keep their bytes, and the header says where all of them are.
unfoldable pub with_part : List ℕ → (p : ℕ) → List ℕ → List ℕ
with_part s p b = written (record { numbers = header_number s; parts = update (part s) p b })

-- The file with this as number i of its header, where that is the agent, the audited action or the audit hour. The pairs are those of the parts, whatever is put in their place.
unfoldable pub with_number : List ℕ → (i n : ℕ) → List ℕ
with_number s i n = written (record { numbers = update (header_number s) i n; parts = part s })

-- Is byte i of a log's rows one of the two bytes of an unseen row's action?
unfoldable pub in_unseen_action : Log → (agent i : ℕ) → Bool
in_unseen_action g agent i = ltb (i % record_bytes log_part) 2 && not (seen_in g agent (i / record_bytes log_part))

-- The bytes from i on, with 255 in the action of each row that is unseen in g: two such bytes are 65,535, absent.
unfoldable pub struck_from : Log → (agent : ℕ) → List ℕ → (i : ℕ) → List ℕ
struck_from g agent [] i = []
struck_from g agent (b ∷ bs) i = cond (in_unseen_action g agent i) 255 b ∷ struck_from g agent bs (i + 1)

-- The log with every row struck out that the agent does not see. "Striking out a row makes its action absent and changes no other byte."
unfoldable pub strike_log : Log → (agent : ℕ) → Log
strike_log g agent = record { rows = struck_from g agent g.rows 0; observers = g.observers }

-- The file with this log. A file refused by check 1 or 2 has no rows, and stays as it is.
unfoldable pub strike : List ℕ → List ℕ
strike s = cond (bad_length s || any (faulty_part s) 8 0) s (with_part s log_part (strike_log (log_of s) (agent_of s)).rows)

-- What an evaluation unfolds of this file.
unfoldable pub evaluated_rewriting : Unit {0}
unfolding header_number contents_of pairs laid_out written with_part with_number in_unseen_action struck_from strike_log strike
evaluated_rewriting = tt
