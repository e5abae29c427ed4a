-- More cases of requests 1 to 3 of document 02, computed from the definition: data variables under owner steps, refinements, and as it was before each request.
use Rattle.std.specs.Prelude.{ℕ, List, [], ◌∷◌, ◌++◌, map, ◌≡◌, refl}
use Rattle.definition.specs.01-Words.{absent}
use Rattle.definition.specs.31-Outcome.{passed, refused}
use Rattle.definition.specs.46-Requests.{outcome_without, is_misfit_number, is_stray_number, is_refining_number, evaluated_requests}
use Rattle.definition.specs.51-Files.{formula_row, predicate_row, owns_row, says_row, and_row, communicates_row, creates_row, user_action_row}
use Rattle.definition.specs.53-Desk.{DeskCase, lent, computed, expected, unchanged, writes}
use Rattle.definition.specs.62-StepFaults.{following, said, taken, line, seen, refining, tautology_at, nested, by_reading, built_steps}

-- Request 1, as it was before: the same place, and 18.
unfoldable pub before_cases : List (List ℕ)
before_cases = said 10 (2 ∷ 0 ∷ []) 1 ∷ said 3 (4 ∷ []) 0 ∷ taken 15 (7 ∷ []) 8 6 ∷ []

-- Request 2. Formulas with data variables, for steps of rule 5 from formula 2, "0 owns d0", and of another rule.
unfoldable pub stray : (rule : ℕ) → (premises : List ℕ) → (formula : ℕ) → List ℕ
stray rule fs formula =
    following
    -- 0 p, 1 the action, 2 "0 owns d0", 3 "0 creates y", 4 q(y), 5 q(y), where 3 is done at each use
    (predicate_row 1 absent absent absent ∷ user_action_row 7 0 absent absent ∷ owns_row 0 16384 ∷ creates_row 0 40968 ∷ predicate_row 2 40968 absent absent ∷ formula_row 6 0 3 4 absent
    -- 6 "for all data y. 5", 7 "0 says 6 to 1", 8 "for all data y. q(y)", 9 "0 says 8 to 1", 10 "8 and 8"
    ∷ formula_row 4 1 5 absent absent ∷ says_row 0 6 1 ∷ formula_row 4 1 4 absent absent ∷ says_row 0 8 1 ∷ and_row 8 8
    -- 11 r(d0, y), 12 "r(d0, y) and q(y)", 13 "for all data y. 12", 14 "0 says 13 to 1"
    ∷ predicate_row 3 16384 40968 absent ∷ and_row 11 4 ∷ formula_row 4 1 12 absent absent ∷ says_row 0 13 1
    -- 15 t(d0), 16 "for all data y. t(d0)", 17 "0 says 16 to 1", 18 u(d0, x), 19 "for all agents x. u(d0, x)", 20 "0 says 19 to 1", 21 "1 communicates q(y) to 0"
    ∷ predicate_row 4 16384 absent absent ∷ formula_row 4 1 15 absent absent ∷ says_row 0 16 1 ∷ predicate_row 5 16384 40960 absent ∷ formula_row 4 0 18 absent absent ∷ says_row 0 19 1 ∷ communicates_row 1 4 0
    -- 22 p, where 21 is done once, 23 "for all data y. 22", 24 "1 says 23 to 0", 25 "2 owns d0"
    ∷ formula_row 7 0 21 0 absent ∷ formula_row 4 1 22 absent absent ∷ says_row 1 23 0 ∷ owns_row 2 16384 ∷ [])
    1 rule fs formula absent

unfoldable pub more_stray_cases : List DeskCase
more_stray_cases =
    -- one row; inside an action, which is lower; the lowest of two, met last
    unchanged (stray 5 (2 ∷ []) 9) (refused 27 4)
    ∷ unchanged (stray 5 (2 ∷ []) 7) (refused 27 3)
    ∷ unchanged (stray 5 (2 ∷ []) 14) (refused 27 4)
    -- in the policy that an action of the formula communicates; there the formula is another agent's
    ∷ unchanged (stray 5 (2 ∷ []) 24) (refused 27 4)
    -- the formula is no "says"; it is before 24 and before 25
    ∷ unchanged (stray 5 (2 ∷ []) 8) (refused 27 4)
    ∷ unchanged (stray 5 (0 ∷ []) 14) (refused 27 4)
    ∷ unchanged (stray 5 (2 ∷ 25 ∷ []) 9) (refused 27 4)
    -- no data variable: a for-all over data that binds nothing, an agent variable; then the labels are open at the end
    ∷ unchanged (stray 5 (2 ∷ []) 17) (refused 21 0)
    ∷ unchanged (stray 5 (2 ∷ []) 20) (refused 21 0)
    -- in a premise alone, and under another rule
    ∷ unchanged (stray 5 (8 ∷ []) 17) (refused 24 1)
    ∷ unchanged (stray 6 (8 ∷ 8 ∷ []) 10) (refused 21 0)
    ∷ unchanged (stray 6 (8 ∷ 8 ∷ []) 9) (refused 18 2)
    ∷ []

-- As it was before the request: at the step, by 18 and by 24.
unfoldable pub before_strays : List (List ℕ)
before_strays = stray 5 (2 ∷ []) 9 ∷ stray 5 (0 ∷ []) 14 ∷ []

-- Request 3.
unfoldable pub more_refining_cases : List DeskCase
more_refining_cases =
    -- labels of a duty, opened and closed again above the tautology
    writes (refining (tautology_at 2 ++ tautology_at 5 ++ line 11 12 2 (7 ∷ []) ∷ line 13 8 2 (8 ∷ []) ∷ line 11 12 2 (9 ∷ []) ∷ line 6 14 absent (4 ∷ 10 ∷ []) ∷ line 7 8 absent (11 ∷ []) ∷ [])) (passed 0 1) (0 ∷ 902 ∷ 903 ∷ [])
    -- from a row; by an obligation, with no label open: a row gives no implication, nor does a reading, so only an obligation is cited by the first premise itself
    ∷ unchanged (refining (line 2 9 1 [] ∷ line 3 8 absent (2 ∷ []) ∷ [])) (refused 28 4)
    ∷ unchanged (refining (tautology_at 2 ++ line 11 12 2 (4 ∷ []) ∷ line 12 8 0 (5 ∷ []) ∷ [])) (refused 28 7)
    -- a label is left open: of mark 0 and 1
    ∷ unchanged (refining (line 0 8 1 [] ∷ [])) (refused 28 3)
    ∷ unchanged (refining (tautology_at 2 ++ line 11 12 2 (4 ∷ []) ∷ line 13 8 2 (5 ∷ []) ∷ [])) (refused 28 7)
    -- the reading is four steps above, in the right half of an "and" of which the left is taken
    ∷ unchanged (refining (by_reading ++ line 11 12 2 (3 ∷ []) ∷ tautology_at 5 ++ line 6 14 absent (7 ∷ 4 ∷ []) ∷ line 7 8 absent (8 ∷ []) ∷ [])) (refused 28 10)
    -- two refinements, the first by a tautology of what another agent says; one within another's tautology; and the same from a row, where the inner step holds
    ∷ writes (seen 7 (line 2 1 0 [] ∷ line 5 17 absent (0 ∷ []) ∷ line 0 15 4 [] ∷ line 3 4 absent (2 ∷ []) ∷ line 9 16 4 (3 ∷ []) ∷ line 4 5 absent (4 ∷ 1 ∷ []) ∷ tautology_at 6 ++ line 4 6 absent (8 ∷ 5 ∷ []) ∷ [])) (passed 0 1) (0 ∷ 902 ∷ 903 ∷ [])
    ∷ writes (nested (line 0 1 5 [])) (passed 0 1) (0 ∷ 902 ∷ 903 ∷ [])
    ∷ unchanged (nested (line 2 1 0 [])) (refused 28 9)
    -- what is refined may rest on a reading, an obligation and a label, which is open at the end
    ∷ unchanged (seen 7 (tautology_at 0 ++ line 0 23 6 [] ∷ line 1 2 0 [] ∷ line 10 22 absent (3 ∷ 4 ∷ []) ∷ line 12 5 0 (5 ∷ []) ∷ line 4 6 absent (2 ∷ 6 ∷ []) ∷ [])) (refused 21 6)
    -- it is after 24: a reading that is no implication
    ∷ unchanged (refining (line 1 2 0 [] ∷ [])) (refused 24 3)
    ∷ []

-- As it was before the request: by a reading, and by a label that is open at the end.
unfoldable pub before_refinings : List (List ℕ)
before_refinings = refining by_reading ∷ refining (line 0 8 1 [] ∷ []) ∷ []

-- What builds these files, for an evaluation to unfold.
unfoldable pub built_more_steps : Unit {0}
unfolding built_steps stray
built_more_steps = tt

pub more_stray_claim : map computed more_stray_cases ≡ map expected more_stray_cases
unfolding built_more_steps more_stray_cases
more_stray_claim = refl

pub more_refining_claim : map computed more_refining_cases ≡ map expected more_refining_cases
unfolding built_more_steps more_refining_cases
more_refining_claim = refl

pub before_claim : map (λ s. (outcome_without is_misfit_number s []).verdict) before_cases ≡ refused 18 2 ∷ refused 18 1 ∷ refused 18 1 ∷ []
unfolding built_more_steps before_cases evaluated_requests
before_claim = refl

pub before_strays_claim : map (λ s. (outcome_without is_stray_number s []).verdict) before_strays ≡ refused 18 1 ∷ refused 24 1 ∷ []
unfolding built_more_steps before_strays evaluated_requests
before_strays_claim = refl

pub before_refinings_claim : map (λ s. (outcome_without is_refining_number s lent).verdict) before_refinings ≡ passed 0 1 ∷ refused 21 1 ∷ []
unfolding built_more_steps before_refinings evaluated_requests
before_refinings_claim = refl
