-- Numbers of 16 bits in bytes, and of 32.
use Rattle.std.specs.Prelude.{ℕ, ◌+◌, ◌*◌, ◌/◌, ◌%◌, List, [], ◌∷◌, get_or}

-- "Numbers are 16 bits, low byte first": the number in the two bytes at i.
unfoldable pub word : List ℕ → ℕ → ℕ
word s i = get_or s i 0 + 256 * get_or s (i + 1) 0

-- Document 02, request 7: a number of 32 bits, low byte first, in the four bytes at i.
unfoldable pub long : List ℕ → ℕ → ℕ
long s i = word s i + 65536 * word s (i + 2)

-- The bytes of these numbers of 16 bits, one behind the other.
unfoldable pub words : List ℕ → List ℕ
words [] = []
words (n ∷ ns) = n % 256 ∷ n / 256 ∷ words ns

-- "65,535 means absent; zero is an ordinary number everywhere."
abbrev pub absent : ℕ
absent = 65535

-- What an evaluation unfolds of this file.
unfoldable pub evaluated_words : Unit {0}
unfolding word long words
evaluated_words = tt
