-- Request 5 on examples, computed from the definition: indexes built, and checks through an index; two lists, a claim for each. proofs/DemandInstances of the crate `cases` has two alike files with different indexes.
use Rattle.std.specs.Prelude.{ℕ, List, [], ◌∷◌, ◌++◌, map, ◌≡◌, refl, length, take, drop}
use Rattle.definition.specs.01-Words.{absent}
use Rattle.definition.specs.04-Checks.{number_of, accepts, refuses}
use Rattle.definition.specs.15-Records.{log_of}
use Rattle.definition.specs.18-Admission.{admission_checks}
use Rattle.definition.specs.31-Outcome.{Outcome, Verdict, passed, none_owed, refused}
use Rattle.definition.specs.35-Index.{index_of, building_checks, Built, building, as_built_checks, outcome_through}
use Rattle.definition.specs.51-Files.{audit_hour, file_of, creates_row, owns_row, predicate_row, says_row, communicates_row}
use Rattle.definition.specs.52-Evaluation.{evaluated}
use Rattle.definition.specs.53-Desk.{lent, grant_with, grant, seen_by, owner_step, built}

-- Grant with a log of four rows. Row 0 is seen by 0 and 3, row 1 by nobody; row 2 is struck and seen by 0 and 16,383; row 3 is seen by 3. The agent, the audited action, the conditions and the row that the seen step cites are given.
unfoldable pub shared : (agent action : ℕ) → (conditions : List ℕ) → (cited : ℕ) → List ℕ
shared agent action conditions cited =
    file_of
    (record {
      agent = agent;
      action = action;
      hour = audit_hour;
      formulas = creates_row 0 16384 ∷ owns_row 0 16384 ∷ predicate_row 7 1 16384 absent ∷ says_row 0 2 1 ∷ communicates_row 0 2 1 ∷ [];
      rows = 0 ∷ 0 ∷ 2 ∷ 4 ∷ 2 ∷ 0 ∷ absent ∷ 2 ∷ 2 ∷ 0 ∷ 4 ∷ 1 ∷ [];
      observers = 0 ∷ 3 ∷ 0 ∷ 16383 ∷ 3 ∷ [];
      conditions = conditions;
      obligations = [];
      labels = [];
      steps = seen_by cited ∷ owner_step ∷ [];
      premises = 0 ∷ [];
    })

-- Its index: three agents; their numbers, offsets and lengths; their rows.
unfoldable pub shared_index : List ℕ
shared_index = (3 ∷ []) ++ (0 ∷ 10 ∷ 2 ∷ 3 ∷ 12 ∷ 2 ∷ 16383 ∷ 14 ∷ 1 ∷ []) ++ (0 ∷ 2 ∷ []) ++ (0 ∷ 3 ∷ []) ++ (2 ∷ [])

-- Creator with these rows and no observers.
unfoldable pub unobserved : (rows : List ℕ) → List ℕ
unobserved rows =
    file_of
    (record {
      agent = 0;
      action = 0;
      hour = audit_hour;
      formulas = creates_row 0 16384 ∷ [];
      rows = rows;
      observers = [];
      conditions = [];
      obligations = [];
      labels = [];
      steps = [];
      premises = [];
    })

-- A file, the room lent for the index, and what building comes to.
pub record IndexCase : Type 0 where
  pub file : List ℕ
  pub room : List ℕ
  pub gives : Built

unfoldable pub computed_index : IndexCase → Built
computed_index c = building c.file c.room

unfoldable pub expected_index : IndexCase → Built
expected_index c = c.gives

-- The room of the examples: numbers that stand in no index there, all different.
unfoldable pub index_room : ℕ → List ℕ
index_room n = take n (901 ∷ 902 ∷ 903 ∷ 904 ∷ 905 ∷ 906 ∷ 907 ∷ 908 ∷ 909 ∷ 910 ∷ 911 ∷ 912 ∷ 913 ∷ 914 ∷ 915 ∷ 916 ∷ 917 ∷ [])

unfoldable pub builds : List ℕ → (room : ℕ) → (index : List ℕ) → IndexCase
builds f n index = record { file = f; room = index_room n; gives = record { answer = accepts (length index); room = index ++ drop (length index) (index_room n) } }

unfoldable pub builds_none : List ℕ → (room number place : ℕ) → IndexCase
builds_none f n k p = record { file = f; room = index_room n; gives = record { answer = refuses k p; room = index_room n } }

unfoldable pub index_cases : List IndexCase
index_cases =
    -- just enough entries, and two more; whoever the agent is, and also where 6 or 9 would refuse
    builds (shared 0 4 [] 0) 15 shared_index
    ∷ builds (shared 0 4 [] 0) 17 shared_index
    ∷ builds (shared 7 4 [] 0) 17 shared_index
    ∷ builds (shared 0 4 (3 ∷ []) 0) 17 shared_index
    ∷ builds (shared absent 1 [] 0) 17 shared_index
    -- Grant: one agent, one row
    ∷ builds grant 6 (1 ∷ 0 ∷ 4 ∷ 1 ∷ 0 ∷ [])
    -- no rows, and rows without observers: no agents
    ∷ builds (unobserved []) 1 (0 ∷ [])
    ∷ builds (unobserved (0 ∷ 0 ∷ 0 ∷ absent ∷ 0 ∷ 0 ∷ [])) 3 (0 ∷ [])
    -- 29: an entry short, and no entries at all
    ∷ builds_none (shared 0 4 [] 0) 14 29 15
    ∷ builds_none (shared 0 4 [] 0) 0 29 15
    -- 1, 2 and 5 come before it
    ∷ builds_none [] 0 1 0
    ∷ builds_none (take 107 grant) 0 2 7
    ∷ builds_none (grant_with 0 4 1 0 (seen_by 0 ∷ owner_step ∷ []) (0 ∷ [])) 0 5 0
    ∷ []

-- A file, the index lent with it, and the outcome in the room of the desk cases.
pub record ThroughCase : Type 0 where
  pub file : List ℕ
  pub index : List ℕ
  pub gives : Outcome

unfoldable pub computed_through : ThroughCase → Outcome
computed_through c = outcome_through c.file c.index lent

unfoldable pub expected_through : ThroughCase → Outcome
expected_through c = c.gives

unfoldable pub through : (file index : List ℕ) → Verdict → List ℕ → ThroughCase
through f index v after = record { file = f; index = index; gives = record { verdict = v; room = after } }

unfoldable pub through_cases : List ThroughCase
through_cases =
    -- the index of the file's log, alone and with entries behind it: as without
    through (shared 0 4 [] 0) shared_index (passed 0 1) (0 ∷ 902 ∷ 903 ∷ [])
    ∷ through (shared 0 4 [] 0) (shared_index ++ 7 ∷ 8 ∷ []) (passed 0 1) (0 ∷ 902 ∷ 903 ∷ [])
    -- a row that the agent does not see; a struck one; one beyond the log; an agent that observes none
    ∷ through (shared 0 4 [] 3) shared_index (refused 16 0) lent
    ∷ through (shared 0 4 [] 2) shared_index (refused 14 0) lent
    ∷ through (shared 0 4 [] 4) shared_index (refused 15 0) lent
    ∷ through (shared 7 4 [] 0) shared_index (refused 11 0) lent
    -- 30: no index; one that ends an entry early; one entry changed, the first or the last
    ∷ through (shared 0 4 [] 0) [] (refused 30 0) lent
    ∷ through (shared 0 4 [] 0) (take 14 shared_index) (refused 30 0) lent
    ∷ through (shared 0 4 [] 0) (4 ∷ drop 1 shared_index) (refused 30 0) lent
    ∷ through (shared 0 4 [] 0) (take 14 shared_index ++ 3 ∷ []) (refused 30 0) lent
    -- struck rows left out; a row too many, which the agent would like to see; offsets counted from the end of the heads; the index of another log
    ∷ through (shared 0 4 [] 0) (2 ∷ 0 ∷ 7 ∷ 1 ∷ 3 ∷ 8 ∷ 2 ∷ 0 ∷ 0 ∷ 3 ∷ []) (refused 30 0) lent
    ∷ through (shared 0 4 [] 3) (3 ∷ 0 ∷ 10 ∷ 3 ∷ 3 ∷ 13 ∷ 2 ∷ 16383 ∷ 15 ∷ 1 ∷ 0 ∷ 2 ∷ 3 ∷ 0 ∷ 3 ∷ 2 ∷ []) (refused 30 0) lent
    ∷ through (shared 0 4 [] 0) (3 ∷ 0 ∷ 0 ∷ 2 ∷ 3 ∷ 2 ∷ 2 ∷ 16383 ∷ 4 ∷ 1 ∷ 0 ∷ 2 ∷ 0 ∷ 3 ∷ 2 ∷ []) (refused 30 0) lent
    ∷ through (shared 0 4 [] 0) (index_of (log_of grant)) (refused 30 0) lent
    -- a log without rows has an index too
    ∷ through (unobserved []) [] (refused 30 0) lent
    ∷ through (unobserved []) (1 ∷ []) (refused 30 0) lent
    ∷ through (unobserved []) (0 ∷ 7 ∷ []) none_owed lent
    -- after 9, and before 10, 11 and "none owed"
    ∷ through (shared 0 1 [] 0) [] (refused 9 0) lent
    ∷ through (grant_with 0 4 0 0 [] []) [] (refused 30 0) lent
    ∷ through (grant_with 0 4 0 0 [] []) (1 ∷ 0 ∷ 4 ∷ 1 ∷ 0 ∷ []) (refused 10 0) lent
    ∷ through (grant_with 0 0 0 0 [] []) [] (refused 30 0) lent
    ∷ through (grant_with 0 0 0 0 [] []) (1 ∷ 0 ∷ 4 ∷ 1 ∷ 0 ∷ []) none_owed lent
    ∷ []

-- The order of the checks: 29 is the last of building, and 30 comes between those of the admission and those of the case.
pub building_numbers : (s : List ℕ) (room : ℕ) → map number_of (building_checks s room) ≡ 1 ∷ 2 ∷ 3 ∷ 4 ∷ 5 ∷ 29 ∷ []
unfolding evaluated
building_numbers s room = refl

pub through_numbers : (s index : List ℕ) → map number_of (admission_checks s ++ as_built_checks (log_of s) index) ≡ 1 ∷ 2 ∷ 3 ∷ 4 ∷ 5 ∷ 6 ∷ 7 ∷ 8 ∷ 9 ∷ 30 ∷ []
unfolding evaluated
through_numbers s index = refl

-- What an evaluation of these unfolds.
unfoldable pub built_indexes : Unit {0}
unfolding built shared shared_index unobserved computed_index expected_index index_room builds builds_none index_cases computed_through expected_through through through_cases
built_indexes = tt

pub indexes_agree : map computed_index index_cases ≡ map expected_index index_cases
unfolding evaluated built_indexes
indexes_agree = refl

pub through_agree : map computed_through through_cases ≡ map expected_through through_cases
unfolding evaluated built_indexes
through_agree = refl
