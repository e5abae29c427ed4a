-- The traps that document 01 names, each with an example on which a checker that fell into it would answer otherwise.
use Rattle.std.specs.Prelude.{ℕ, List, [], ◌∷◌, map, ◌≡◌, refl}
use Rattle.definition.specs.01-Words.{absent}
use Rattle.definition.specs.13-Formulas.{each_use, once}
use Rattle.definition.specs.31-Outcome.{refused}
use Rattle.definition.specs.51-Files.{audit_hour, not_due, file_of, predicate_row, says_row, implies_row, after_row, communicates_row, user_action_row, step}
use Rattle.definition.specs.53-Desk.{DeskCase, computed, expected, unchanged, grant_with, seen_by, owner_step, visit, twice, built}

-- "Testing a struck row before its observers shows whether a hidden row is empty." Grant's row struck out: for an agent that does not see it 16, as if it were not struck; for one that does 14.
unfoldable pub struck_row : (observer : ℕ) → List ℕ
struck_row observer = grant_with 0 4 absent observer (seen_by 0 ∷ owner_step ∷ []) (0 ∷ [])

-- "Here uses are split": the two premises of refine both rest on the each-use label 2. Formulas: 3 is "1 implies 2", 4 and 5 "0 says 1 to 1" and "0 says 2 to 1",
-- 6 and 7 put the user action 0 before 3 and 4.
unfoldable pub shared_label : List ℕ
shared_label =
    file_of
    (record {
      agent = 0;
      action = 8;
      hour = audit_hour;
      formulas = user_action_row 3 0 absent absent ∷ predicate_row 1 16384 absent absent ∷ predicate_row 2 16384 absent absent ∷ implies_row 1 2 ∷ says_row 0 1 1 ∷ says_row 0 2 1 ∷ after_row each_use 0 3 ∷ after_row each_use 0 4 ∷ communicates_row 0 2 1 ∷ [];
      rows = [];
      observers = [];
      conditions = [];
      obligations = [];
      labels = 0 ∷ 6 ∷ 0 ∷ 7 ∷ each_use ∷ 0 ∷ [];
      steps = step 0 6 0 0 0 ∷ step 13 3 2 0 1 ∷ step 0 7 1 1 0 ∷ step 13 4 2 1 1 ∷ step 4 5 absent 2 2 ∷ [];
      premises = 0 ∷ 2 ∷ 1 ∷ 3 ∷ [];
    })

-- "An owner step over no data would let anyone grant anything free of data."
unfoldable pub owner_of_nothing : List ℕ
owner_of_nothing =
    file_of
    (record {
      agent = 0;
      action = 2;
      hour = audit_hour;
      formulas = predicate_row 7 1 absent absent ∷ says_row 0 0 1 ∷ communicates_row 0 0 1 ∷ [];
      rows = [];
      observers = [];
      conditions = [];
      obligations = [];
      labels = [];
      steps = step 5 1 absent 0 0 ∷ [];
      premises = [];
    })

unfoldable pub traps : List DeskCase
traps =
    unchanged (struck_row 1) (refused 16 0)
    ∷ unchanged (struck_row 0) (refused 14 0)
    ∷ unchanged shared_label (refused 17 4)
    ∷ unchanged owner_of_nothing (refused 12 0)
    -- "Reading an absent condition as formula 0"
    ∷ unchanged (visit (absent ∷ [])) (refused 14 2)
    -- "Taking a mark 1 obligation for a mark 2 demand: they never match", nor the other way round
    ∷ unchanged (twice once (not_due each_use 0 ∷ []) 0) (refused 18 2)
    ∷ unchanged (twice each_use (not_due once 0 ∷ []) 0) (refused 18 2)
    ∷ []

pub traps_avoided : map computed traps ≡ map expected traps
unfolding built struck_row shared_label owner_of_nothing traps
traps_avoided = refl
