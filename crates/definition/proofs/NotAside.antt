-- What demand 3 leaves aside, on the examples of specs/55-HiddenRows: files that check 3, 4 or a later one refuses are not left aside, and alike ones have the same answer;
-- what 1, 2 or 5 refuses has to be left aside; and alike files have to share the audit hour. By the number of the refusal, and computed.
-- Assumes nothing.
use Rattle.std.specs.Prelude.{ℕ, ◌<◌, List, [], ◌∷◌, ◌⊎◌, ◌≡◌, refl, take}
use Rattle.std.proofs.Common.{inl, inr, arith}
use Rattle.definition.specs.31-Outcome.{refused, outcome}
use Rattle.definition.specs.44-Demands.{LeftAside}
use Rattle.definition.specs.53-Desk.{lent, built}
use Rattle.definition.specs.55-HiddenRows.{WellMade, two_rows, one_way_in, other_way_in, ways_alike, one_way, other_way, never_both, made_if_passed, AlikeRefused, ShowsThrough, empty_parts, observer_bytes, unnamed_alike, HourShows, audited_at}

-- The demand asks of no file here more than it has: no refusal by 1, 2 or 5.
pub not_aside : (n : ℕ) → 2 < n → (n < 5) ⊎ (5 < n) → LeftAside n → ⊥
not_aside n from other (inl i) = omega arith
not_aside n from other (inr (inl i)) = omega arith
not_aside n from (inl lt) (inr (inr i)) = omega arith
not_aside n from (inr lt) (inr (inr i)) = omega arith

pub made_if_refused : (s room : List ℕ) (m q : ℕ) → 2 < m → (m < 5) ⊎ (5 < m) → (outcome s room).verdict ≡ refused m q → WellMade s room
made_if_refused s room m q from other v (n, p, e, aside) = let number : n ≡ m = cc in not_aside m from other (rw number at aside)

pub ways_made : WellMade (one_way 0 1) lent × WellMade (other_way 4 1) lent × WellMade (one_way 0 0) lent × WellMade (other_way 4 0) lent
unfolding built two_rows
ways_made = (
  made_if_refused (one_way 0 1) lent 16 0 (omega arith) (inr (omega arith)) refl,
  made_if_refused (other_way 4 1) lent 16 0 (omega arith) (inr (omega arith)) refl,
  made_if_passed (one_way 0 0) lent 0 1 refl,
  made_if_passed (other_way 4 0) lent 0 1 refl,
)

faulty_book :
    (code creator n : ℕ) → 2 < n → n < 5 → (outcome (one_way_in code creator 1 0) lent).verdict ≡ refused n 5 → (outcome (other_way_in code creator 4 0) lent).verdict ≡ refused n 5 →
    AlikeRefused (one_way_in code creator 1 0) (other_way_in code creator 4 0) n 5
faulty_book code creator n from to e f =
    record {
      one = e;
      other = f;
      alike = ways_alike code creator 1 4 0;
      one_made = made_if_refused (one_way_in code creator 1 0) lent n 5 from (inl to) e;
      other_made = made_if_refused (other_way_in code creator 4 0) lent n 5 from (inl to) f;
    }

-- Formula 5 has a code, and it repeats formula 0.
pub alike_refused_by_3 : AlikeRefused (one_way_in 1 0 1 0) (other_way_in 1 0 4 0) 3 5
unfolding built two_rows
alike_refused_by_3 = faulty_book 1 0 3 (omega arith) (omega arith) refl refl

pub alike_refused_by_4 : AlikeRefused (one_way_in 0 0 1 0) (other_way_in 0 0 4 0) 4 5
unfolding built two_rows
alike_refused_by_4 = faulty_book 0 0 4 (omega arith) (omega arith) refl refl

pub one_shows_through : ShowsThrough 1
unfolding built empty_parts
one_shows_through =
    record {
      one = take 37 empty_parts;
      other = empty_parts;
      place = 0;
      alike = record {
        agent = refl;
        action = refl;
        hour = refl;
        formulas = refl;
        conditions = refl;
        obligations = refl;
        labels = refl;
        steps = refl;
        premises = refl;
        log = record { rows = refl; row = λ k lt. absurd (omega arith) };
      };
      refused_by = refl;
      other_made = made_if_refused empty_parts lent 9 0 (omega arith) (inr (omega arith)) refl;
      differ = λ e. let z : ◌≡◌ {A = ℕ} 1 9 = cc in omega arith;
    }

pub two_shows_through : ShowsThrough 2
unfolding built observer_bytes
two_shows_through =
    record {
      one = observer_bytes (7 ∷ []);
      other = observer_bytes [];
      place = 2;
      alike = record {
        agent = refl;
        action = refl;
        hour = refl;
        formulas = refl;
        conditions = refl;
        obligations = refl;
        labels = refl;
        steps = refl;
        premises = refl;
        log = record { rows = refl; row = unnamed_alike };
      };
      refused_by = refl;
      other_made = made_if_refused (observer_bytes []) lent 9 0 (omega arith) (inr (omega arith)) refl;
      differ = λ e. let z : ◌≡◌ {A = ℕ} 2 9 = cc in omega arith;
    }

-- An unseen row whose action is no action is a fault of the file.
pub five_shows_through : ShowsThrough 5
unfolding built two_rows
five_shows_through =
    record {
      one = one_way 1 0;
      other = other_way 4 0;
      place = 1;
      alike = ways_alike 0 1 1 4 0;
      refused_by = refl;
      other_made = ways_made.3;
      differ = λ e. let z : ◌≡◌ {A = ℕ} 0 1 = cc in omega arith;
    }

pub hour_shows : HourShows
unfolding built audited_at
hour_shows =
    record {
      one = audited_at 49;
      other = audited_at 50;
      before = refl;
      behind = refl;
      one_made = made_if_passed (audited_at 49) lent 1 1 refl;
      other_made = made_if_refused (audited_at 50) lent 31 0 (omega arith) (inr (omega arith)) refl;
      differ = never_both {d = 1} {r = 1} {n = 31} {p = 0};
    }
