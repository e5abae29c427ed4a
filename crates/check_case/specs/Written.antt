-- A buffer with a text written into it.
use Rattle.std.specs.Prelude.{ℕ, ◌+◌, ◌≤◌, ◌≡◌, List, length, take}
use Rattle.std.proofs.lemmas.List.Edits.{sets}

-- The text stands in the buffer from `at` to `end`; all else is as before. Nothing is stored beyond the buffer, so whoever promises this asks that the text fits.
pub record Written (before : List ℕ) (at : ℕ) (text after : List ℕ) (end : ℕ) : Type 0 where
  pub is : after ≡ sets before at text
  pub ends : end ≡ at + length text

-- So many bytes are at the start of the buffer, which are as many as its first so many are. The second part follows from the first, and spares whoever takes these bytes a proof.
abbrev pub IsPrefixLen : ℕ → List ℕ → Type 0
IsPrefixLen n buffer = (n ≤ length buffer) × (n ≡ length (take n buffer))
