-- Check 13 as the code takes it, premise by premise.
use Rattle.std.specs.Prelude.{ℕ, Bool, true, cond, not, ◌||◌, ◌≡◌, List, [], ◌∷◌, length, ltb}
use Rattle.definition.specs.02-Ranges.{listed, update}
use Rattle.definition.specs.15-Records.{premise_step}
use Rattle.definition.specs.22-Steps.{bad_premises, with_used}
use Rattle.tables.specs.Sets.{left_in, used_of}

-- The steps marked as used by check 13, up to the first premise that it refuses.
unfoldable pub takes : (ℕ → Bool) → ℕ → List ℕ → ℕ → Bool
takes used k [] = used
takes used k (p ∷ ps) = cond (not (ltb p k) || used p) used (takes (update used p true) k ps)

-- Check 13 of the premises in the span from `from` on: its answer, and every entry of the table.
pub record Taken (s : List ℕ) (k from len : ℕ) (before : List ℕ) (r : Bool) (after : List ℕ) : Type 0 where
  pub long : length after ≡ 2048
  pub is : r ≡ bad_premises (used_of before) k (listed (premise_step s) len from)
  pub left : left_in after ≡ with_used (left_in before) (takes (used_of before) k (listed (premise_step s) len from))
