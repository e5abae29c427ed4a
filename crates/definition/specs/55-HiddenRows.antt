-- Demand 3 on examples: files that differ in a row that the agent does not see have the same outcome, whether a step cites that row or not;
-- what the demand leaves aside, files that check 1, 2 or 5 refuses, has to be left aside; and alike files have to share the audit hour.
-- What has to be left aside, and that the hour has to be shared, is stated here and proved in proofs/NotAside.
use Rattle.std.specs.Prelude.{ℕ, zero, suc, ◌<◌, List, [], ◌∷◌, map, ◌≡◌, refl, length, take, drop}
use Rattle.std.proofs.Common.{inl, inr, sym, ◌∙◌, arith}
use Rattle.definition.specs.01-Words.{words, absent}
use Rattle.definition.specs.13-Formulas.{once}
use Rattle.definition.specs.15-Records.{log_of}
use Rattle.definition.specs.19-Rewriting.{laid_out, with_number, strike}
use Rattle.definition.specs.31-Outcome.{passed, refused, outcome}
use Rattle.definition.specs.43-Alike.{RowAlike, Alike}
use Rattle.definition.specs.44-Demands.{Mended, checking}
use Rattle.definition.specs.51-Files.{audit_hour, file_of, formula_row, predicate_row, owns_row, says_row, communicates_row, creates_row}
use Rattle.definition.specs.53-Desk.{DeskCase, computed, expected, lent, unchanged, writes, seen_by, owner_step, due_before, twice_due, built}

-- The file is checked in this room without a refusal by 1, 2 or 5.
abbrev pub WellMade : (s room : List ℕ) → Type 0
WellMade s room = checking.is_aside (record { file = s; room = room }) → ⊥

-- Grant with a second row, which agent 0 does not see: its action and observers are given, and the row that the seen step cites.
-- Formula 5, which nothing uses, is creates(creator, 16384), with a code, which is to be 0.
unfoldable pub two_rows : (code creator : ℕ) → (action : ℕ) → (observers : List ℕ) → (cited : ℕ) → List ℕ
two_rows code creator action observers cited =
    file_of
    (record {
      agent = 0;
      action = 4;
      hour = audit_hour;
      formulas = creates_row 0 16384 ∷ owns_row 0 16384 ∷ predicate_row 7 1 16384 absent ∷ says_row 0 2 1 ∷ communicates_row 0 2 1 ∷ formula_row 9 code creator 16384 absent ∷ [];
      rows = 0 ∷ 0 ∷ 1 ∷ action ∷ 1 ∷ length observers ∷ [];
      observers = 0 ∷ observers;
      conditions = [];
      obligations = [];
      labels = [];
      steps = seen_by cited ∷ owner_step ∷ [];
      premises = 0 ∷ [];
    })

-- The same file but for the unseen row's action and observers.
abbrev pub one_way_in : (code creator action cited : ℕ) → List ℕ
one_way_in code creator action cited = two_rows code creator action (1 ∷ []) cited

abbrev pub other_way_in : (code creator action cited : ℕ) → List ℕ
other_way_in code creator action cited = two_rows code creator action (1 ∷ 2 ∷ []) cited

pub rows_alike : (code creator a b c k : ℕ) → k < 2 → RowAlike 0 (log_of (one_way_in code creator a c)) (log_of (other_way_in code creator b c)) k
unfolding built two_rows
rows_alike code creator a b c zero h = inl (refl, refl, refl)
rows_alike code creator a b c (suc zero) h = inr (refl, refl)
rows_alike code creator a b c (suc (suc k)) h = absurd (omega arith)

-- They are alike to the agent, whatever the two actions are.
pub ways_alike : (code creator a b c : ℕ) → Alike (one_way_in code creator a c) (other_way_in code creator b c)
unfolding built two_rows
ways_alike code creator a b c =
    record {
      agent = refl;
      action = refl;
      hour = refl;
      formulas = refl;
      conditions = refl;
      obligations = refl;
      labels = refl;
      steps = refl;
      premises = refl;
      log = record { rows = refl; row = rows_alike code creator a b c };
    }

-- With a good formula 5.
abbrev pub one_way : (action cited : ℕ) → List ℕ
one_way action cited = one_way_in 0 1 action cited

abbrev pub other_way : (action cited : ℕ) → List ℕ
other_way action cited = other_way_in 0 1 action cited

unfoldable pub hidden_cases : List DeskCase
hidden_cases =
    -- the unseen row cited
    unchanged (one_way 0 1) (refused 16 0)
    ∷ unchanged (other_way 4 1) (refused 16 0)
    ∷ unchanged (other_way absent 1) (refused 16 0)
    -- the seen row cited
    ∷ writes (one_way 0 0) (passed 0 1) (0 ∷ 902 ∷ 903 ∷ [])
    ∷ writes (other_way 4 0) (passed 0 1) (0 ∷ 902 ∷ 903 ∷ [])
    ∷ writes (other_way absent 0) (passed 0 1) (0 ∷ 902 ∷ 903 ∷ [])
    -- the unseen row's action is no action
    ∷ unchanged (one_way 1 0) (refused 5 1)
    ∷ []

pub hidden_rows_hidden : map computed hidden_cases ≡ map expected hidden_cases
unfolding built two_rows hidden_cases
hidden_rows_hidden = refl

-- A verdict is not both.
pub never_both : {d r n p : ℕ} → passed d r ≡ refused n p → ⊥
never_both e = let z : ◌≡◌ {A = ℕ} 0 1 = cc in omega arith

pub made_if_passed : (s room : List ℕ) (d r : ℕ) → (outcome s room).verdict ≡ passed d r → WellMade s room
made_if_passed s room d r v (n, p, e, among) = never_both (sym v ∙ e)

-- Two alike files whose book check 3 or 4 refuses, though check 5 would find fault with the unseen row of one: the demand speaks of these too.
pub record AlikeRefused (s t : List ℕ) (number place : ℕ) : Type 0 where
  pub one : (outcome s lent).verdict ≡ refused number place
  pub other : (outcome t lent).verdict ≡ refused number place
  pub alike : Alike s t
  pub one_made : WellMade s lent
  pub other_made : WellMade t lent

-- What the demand leaves aside has to be left aside: alike files, one refused by the number, the other well made, with another verdict.
pub record ShowsThrough (number : ℕ) : Type 0 where
  pub one : List ℕ
  pub other : List ℕ
  pub place : ℕ
  pub alike : Alike one other
  pub refused_by : (outcome one lent).verdict ≡ refused number place
  pub other_made : WellMade other lent
  pub differ : (outcome one lent).verdict ≡ (outcome other lent).verdict → ⊥

-- A header whose parts are all empty, and the same cut short by one byte: no part has it, and it would be 0.
unfoldable pub empty_parts : List ℕ
empty_parts = laid_out 0 0 audit_hour ([] ∷ [] ∷ [] ∷ [] ∷ [] ∷ [] ∷ [] ∷ [] ∷ [])

-- No formulas, and one row that nobody is named for, or a byte that is half an observer.
unfoldable pub observer_bytes : List ℕ → List ℕ
observer_bytes bytes = laid_out 0 0 audit_hour ([] ∷ words (absent ∷ 0 ∷ 0 ∷ []) ∷ bytes ∷ [] ∷ [] ∷ [] ∷ [] ∷ [] ∷ [])

pub unnamed_alike : (k : ℕ) → k < 1 → RowAlike 0 (log_of (observer_bytes (7 ∷ []))) (log_of (observer_bytes [])) k
unfolding built observer_bytes
unnamed_alike zero h = inr (refl, refl)
unnamed_alike (suc k) h = absurd (omega arith)

-- And the one file that is not answered as if it were struck: that row is mended by striking it out, and the struck file passes.
pub struck_is_mended : Mended (one_way 1 0) 1 × ((outcome (one_way 1 0) lent).verdict ≡ refused 5 1) × ((outcome (strike (one_way 1 0)) lent).verdict ≡ passed 0 1)
unfolding built two_rows
struck_is_mended = ((refl, refl), refl, refl)

-- An expired duty that names a row which the agent does not see: whatever action the row has, the duty's own or none, it is not done.
unfoldable pub unseen_duty : (action : ℕ) → List ℕ
unseen_duty action = twice_due action 0 once (due_before once 1 ∷ []) 0

pub unseen_rows_alike : (a b k : ℕ) → k < 2 → RowAlike 1 (log_of (unseen_duty a)) (log_of (unseen_duty b)) k
unfolding built unseen_duty
unseen_rows_alike a b zero h = inl (refl, refl, refl)
unseen_rows_alike a b (suc zero) h = inr (refl, refl)
unseen_rows_alike a b (suc (suc k)) h = absurd (omega arith)

pub unseen_duties_alike : (a b : ℕ) → Alike (unseen_duty a) (unseen_duty b)
unfolding built unseen_duty
unseen_duties_alike a b =
    record {
      agent = refl;
      action = refl;
      hour = refl;
      formulas = refl;
      conditions = refl;
      obligations = refl;
      labels = refl;
      steps = refl;
      premises = refl;
      log = record { rows = refl; row = unseen_rows_alike a b };
    }

pub unseen_duties_hidden : map (λ a. (outcome (unseen_duty a) lent).verdict) (0 ∷ 3 ∷ 5 ∷ absent ∷ []) ≡ refused 31 0 ∷ refused 31 0 ∷ refused 31 0 ∷ refused 31 0 ∷ []
unfolding built unseen_duty
unseen_duties_hidden = refl

-- Alike files share the audit hour, and have to: two files that differ in its two bytes alone, both well made, with different verdicts.
pub record HourShows : Type 0 where
  pub one : List ℕ
  pub other : List ℕ
  pub before : take 36 one ≡ take 36 other
  pub behind : drop 38 one ≡ drop 38 other
  pub one_made : WellMade one lent
  pub other_made : WellMade other lent
  pub differ : (outcome one lent).verdict ≡ (outcome other lent).verdict → ⊥

-- Twice with a duty due at 49 that names no row: expired at the audit hour 50, not expired at 49.
unfoldable pub audited_at : (hour : ℕ) → List ℕ
audited_at hour = with_number (twice_due 0 1 once (due_before once absent ∷ []) 0) 18 hour
