-- Check 19: a term in the formula of an open label, looked for label by label. Assumes nothing.
use Prim.Native.Nat.{ℕ, zero, suc, ◌+◌, ◌<◌}
use mathlib.Core.Path.{◌≡◌, refl}
use mathlib.Core.Bool.{Bool, ◌&&◌}
use mathlib.Core.List.{List}
use native.Mathlib.Omega.{arith}
use Rattle.std.specs.List.{list_any, range_with_len}
use Rattle.definition.specs.02-Ranges.{any}
use Rattle.definition.specs.13-Formulas.{this_term, has}
use Rattle.definition.specs.14-Book.{tree_in}
use Rattle.definition.specs.11-Layout.{label_part, count}
use Rattle.definition.specs.15-Records.{formulas, label_formula}
use Rattle.tables.specs.Sets.{labels_of}
use Rattle.case_file.specs.LentCase.{Lent}
use Rattle.case_file.proofs.LentCaseLaws.{parted, labels_few}

pub label_few : {s b : List ℕ} {l : ℕ} → Lent s b → l < count s label_part → l < 32
label_few {s} lent lt = omega (arith, labels_few s (parted lent))

-- Label l is in the set, and the term stands in its formula.
abbrev pub in_label : (s : List ℕ) (term bits l : ℕ) → Bool
in_label s term bits l = labels_of bits l && has (this_term term) 0 (tree_in (formulas s) (label_formula s l))

-- The test of one of the numbers from i on, as a range walks them.
pub any_in_range : (p : ℕ → Bool) (n i : ℕ) → list_any p (range_with_len i n) ≡ any p n i
unfolding any
any_in_range p zero i = refl
any_in_range p (suc n) i = rw (any_in_range p n (i + 1))
