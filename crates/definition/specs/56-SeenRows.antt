-- A case file, and what the definition computes of it: its admission, what the agent sees of each row, the file with every unseen row struck out, and files rewritten.
use Rattle.std.specs.Prelude.{ℕ, List, [], ◌∷◌, ◌++◌, ◌≡◌, refl, drop}
use Rattle.std.proofs.Math.Option.{none}
use Rattle.definition.specs.01-Words.{words, absent}
use Rattle.definition.specs.02-Ranges.{listed}
use Rattle.definition.specs.04-Checks.{accepts, refuses}
use Rattle.definition.specs.11-Layout.{condition_part}
use Rattle.definition.specs.13-Formulas.{creates}
use Rattle.definition.specs.16-Views.{hidden, struck, shows}
use Rattle.definition.specs.17-Case.{case_of}
use Rattle.definition.specs.18-Admission.{admission}
use Rattle.definition.specs.19-Rewriting.{contents_of, written, with_part, with_number, strike}
use Rattle.definition.specs.44-Demands.{checking, admitting}
use Rattle.definition.specs.51-Files.{audit_hour, file_of, creates_row, predicate_row}
use Rattle.definition.specs.52-Evaluation.{evaluated}

-- Agent 5. Row 0 is seen; row 1 is seen and struck; rows 2 and 3 are seen by agent 6 alone, and row 3 is struck. The action of row 2 and the conditions are given.
unfoldable pub four_rows : (row2 : ℕ) → (conditions : List ℕ) → List ℕ
four_rows row2 conditions =
    file_of
    (record {
      agent = 5;
      action = 0;
      hour = audit_hour;
      formulas = creates_row 5 16384 ∷ predicate_row 1 16384 absent absent ∷ [];
      rows = 0 ∷ 0 ∷ 2 ∷ absent ∷ 2 ∷ 1 ∷ row2 ∷ 3 ∷ 1 ∷ absent ∷ 4 ∷ 1 ∷ [];
      observers = 5 ∷ 6 ∷ 5 ∷ 6 ∷ 6 ∷ [];
      conditions = conditions;
      obligations = [];
      labels = [];
      steps = [];
      premises = [];
    })

pub rows_admitted : admission (four_rows 0 (absent ∷ [])) ≡ accepts tt
unfolding evaluated four_rows
rows_admitted = refl

-- Row 2 is no action, but a predicate: a fault, seen or not.
pub rows_refused : admission (four_rows 1 (absent ∷ [])) ≡ refuses 5 2
unfolding evaluated four_rows
rows_refused = refl

-- An unseen row is hidden, struck or not; so is a number beyond the log.
pub rows_seen : listed (case_of (four_rows 0 (absent ∷ []))).row 5 0 ≡ shows (creates 5 16384) ∷ struck ∷ hidden ∷ hidden ∷ hidden ∷ []
unfolding evaluated four_rows
rows_seen = refl

-- An absent condition is no reading, and never formula 0.
pub condition_absent : (case_of (four_rows 0 (absent ∷ []))).condition 0 ≡ none
unfolding evaluated four_rows
condition_absent = refl

-- Striking out the unseen rows changes the action of row 2, and nothing else.
pub rows_struck : strike (four_rows 0 (absent ∷ [])) ≡ four_rows absent (absent ∷ [])
unfolding evaluated four_rows
rows_struck = refl

-- That file is what demand 3 compares with, for both entry points.
pub struck_inputs : (checking.strike_out (record { file = four_rows 0 (absent ∷ []); room = 7 ∷ [] }) ≡ record { file = four_rows absent (absent ∷ []); room = 7 ∷ [] }) × (admitting.strike_out (four_rows 0 (absent ∷ [])) ≡ four_rows absent (absent ∷ []))
unfolding evaluated four_rows
struck_inputs = (refl, refl)

-- It is what it holds, put together; with a longer part in place of its own the parts behind move; and the numbers of the header are put in place.
pub rows_again : written (contents_of (four_rows 0 (absent ∷ []))) ≡ four_rows 0 (absent ∷ [])
unfolding evaluated four_rows
rows_again = refl

pub condition_added : with_part (four_rows 0 (absent ∷ [])) condition_part (words (absent ∷ 1 ∷ [])) ≡ four_rows 0 (absent ∷ 1 ∷ [])
unfolding evaluated four_rows
condition_added = refl

pub numbers_put : with_number (with_number (four_rows 0 []) 0 6) 1 1 ≡ words (6 ∷ 1 ∷ []) ++ drop 4 (four_rows 0 [])
unfolding evaluated four_rows
numbers_put = refl
