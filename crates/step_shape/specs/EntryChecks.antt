-- Checks 14 and 15 as the code makes them, of an entry of a part.
use Rattle.std.specs.Prelude.{ℕ, not, List, [], ◌∷◌, eqb, ltb}
use Rattle.definition.specs.01-Words.{absent}
use Rattle.definition.specs.04-Checks.{Check, single}

-- Checks 14 and 15 of an entry of a part that has so many.
unfoldable pub entry_checks : (entries a k : ℕ) → List Check
entry_checks n a k = single 14 k (eqb a absent) ∷ single 15 k (not (ltb a n)) ∷ []
