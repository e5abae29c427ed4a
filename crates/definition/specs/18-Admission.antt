-- The admission of a case file: checks 1 to 9. The order of the groups stands here, that within a group where its tests are.
use Rattle.std.specs.Prelude.{ℕ, ◌<◌, false, ◌≡◌, List, ◌++◌}
use Rattle.definition.specs.04-Checks.{Check, Checked, in_order}
use Rattle.definition.specs.11-Layout.{formula_part, part, bad_length, faulty_part, layout_checks}
use Rattle.definition.specs.14-Book.{book_checks}
use Rattle.definition.specs.15-Records.{log_of, formulas, log_checks, record_checks}

-- Checks 1 to 5: the layout, the formulas, the log.
unfoldable pub checks_to_log : List ℕ → List Check
checks_to_log s = layout_checks s ++ book_checks (part s formula_part) ++ log_checks (log_of s) (formulas s)

-- Checks 1 to 9.
unfoldable pub admission_checks : List ℕ → List Check
admission_checks s = checks_to_log s ++ record_checks s

unfoldable pub admission : List ℕ → Checked (Unit {0})
admission s = in_order (admission_checks s)

-- Checks 1 and 2 let the file pass: its parts are where the header says.
pub record Parted (s : List ℕ) : Type 0 where
  pub long : bad_length s ≡ false
  pub sound : (p : ℕ) → p < 8 → faulty_part s p ≡ false

-- What an evaluation unfolds of this file.
unfoldable pub evaluated_admission : Unit {0}
unfolding checks_to_log admission_checks admission
evaluated_admission = tt
