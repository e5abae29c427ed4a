-- What the definition computes of the program's text, in bytes, and of the answers as numbers.
use Rattle.std.specs.Prelude.{ℕ, ◌+◌, List, [], ◌∷◌, ◌++◌, map, ◌≡◌, refl, length, take, drop}
use Rattle.std.proofs.Math.Option.{Option, none, some}
use Rattle.definition.specs.04-Checks.{accepts, refuses}
use Rattle.definition.specs.11-Layout.{obligation_part, log_part, most_records}
use Rattle.definition.specs.13-Formulas.{each_use}
use Rattle.definition.specs.31-Outcome.{passed, none_owed, refused}
use Rattle.definition.specs.32-Numbers.{verdict_numbers, run_numbers}
use Rattle.definition.specs.33-Text.{numeral, lent_room, answer_text, evaluated_text}
use Rattle.definition.specs.34-Program.{Answer, gives, error, so_far, read_all, printed, most_read, evaluated_program}
use Rattle.definition.specs.51-Files.{not_due}
use Rattle.definition.specs.53-Desk.{grant_with, grant, twice, built}

-- "case 108", "passed 0 1", "row 0", each with a line end, in ASCII.
pub grant_printed : answer_text grant ≡ 99 ∷ 97 ∷ 115 ∷ 101 ∷ 32 ∷ 49 ∷ 48 ∷ 56 ∷ 10 ∷ 112 ∷ 97 ∷ 115 ∷ 115 ∷ 101 ∷ 100 ∷ 32 ∷ 48 ∷ 32 ∷ 49 ∷ 10 ∷ 114 ∷ 111 ∷ 119 ∷ 32 ∷ 48 ∷ 10 ∷ []
unfolding built evaluated_text
grant_printed = refl

-- "case 206", "refused 17 5", each with a line end, in ASCII.
pub twice_printed : answer_text (twice each_use (not_due each_use 0 ∷ []) 0) ≡ 99 ∷ 97 ∷ 115 ∷ 101 ∷ 32 ∷ 50 ∷ 48 ∷ 54 ∷ 10 ∷ 114 ∷ 101 ∷ 102 ∷ 117 ∷ 115 ∷ 101 ∷ 100 ∷ 32 ∷ 49 ∷ 55 ∷ 32 ∷ 53 ∷ 10 ∷ []
unfolding built evaluated_text
twice_printed = refl

-- "case 214", "passed 2 1", "duty 0", "duty 1", "row 0", each with a line end, in ASCII.
pub duties_printed : answer_text (twice each_use (not_due each_use 0 ∷ not_due each_use 0 ∷ []) 1) ≡ 99 ∷ 97 ∷ 115 ∷ 101 ∷ 32 ∷ 50 ∷ 49 ∷ 52 ∷ 10 ∷ 112 ∷ 97 ∷ 115 ∷ 115 ∷ 101 ∷ 100 ∷ 32 ∷ 50 ∷ 32 ∷ 49 ∷ 10 ∷ 100 ∷ 117 ∷ 116 ∷ 121 ∷ 32 ∷ 48 ∷ 10 ∷ 100 ∷ 117 ∷ 116 ∷ 121 ∷ 32 ∷ 49 ∷ 10 ∷ 114 ∷ 111 ∷ 119 ∷ 32 ∷ 48 ∷ 10 ∷ []
unfolding built evaluated_text
duties_printed = refl

-- "case 86", "none owed", each with a line end, in ASCII.
pub creator_printed : answer_text (grant_with 0 0 0 0 [] []) ≡ 99 ∷ 97 ∷ 115 ∷ 101 ∷ 32 ∷ 56 ∷ 54 ∷ 10 ∷ 110 ∷ 111 ∷ 110 ∷ 101 ∷ 32 ∷ 111 ∷ 119 ∷ 101 ∷ 100 ∷ 10 ∷ []
unfolding built evaluated_text
creator_printed = refl

-- The three kinds of a verdict as C gets them, and the two of an admission.
pub verdicts_numbered :
    map verdict_numbers (passed 2 1 ∷ none_owed ∷ refused 17 5 ∷ [])
    ≡ record { kind = 0; first = 2; second = 1 } ∷ record { kind = 1; first = 0; second = 0 } ∷ record { kind = 2; first = 17; second = 5 } ∷ []
unfolding verdict_numbers
verdicts_numbered = refl

pub admissions_numbered : map run_numbers (accepts tt ∷ refuses 5 1 ∷ []) ≡ record { number = 0; place = 0 } ∷ record { number = 5; place = 1 } ∷ []
unfolding run_numbers
admissions_numbered = refl

-- One byte more than the largest file has, and "a room of 1,088 entries": one for each obligation and each row that a file can have.
pub most_read_lem : most_read ≡ 47911
most_read_lem = refl

pub lent_room_lem : (length lent_room ≡ 1088) × (length lent_room ≡ most_records obligation_part + most_records log_part)
unfolding built evaluated_text
lent_room_lem = (refl, refl)

-- At the first and the last number of each length, no digit more than it takes.
pub numerals_printed :
    map numeral (0 ∷ 9 ∷ 10 ∷ 99 ∷ 100 ∷ 999 ∷ 1000 ∷ 9999 ∷ 10000 ∷ 65535 ∷ [])
    ≡ (48 ∷ []) ∷ (57 ∷ []) ∷ (49 ∷ 48 ∷ []) ∷ (57 ∷ 57 ∷ []) ∷ (49 ∷ 48 ∷ 48 ∷ []) ∷ (57 ∷ 57 ∷ 57 ∷ []) ∷ (49 ∷ 48 ∷ 48 ∷ 48 ∷ []) ∷ (57 ∷ 57 ∷ 57 ∷ 57 ∷ []) ∷ (49 ∷ 48 ∷ 48 ∷ 48 ∷ 48 ∷ []) ∷ (54 ∷ 53 ∷ 53 ∷ 51 ∷ 53 ∷ []) ∷ []
unfolding built evaluated_text
numerals_printed = refl

-- What the program prints where the system answers so.
unfoldable pub printed_of : List Answer → Option (List ℕ)
printed_of answers = printed (read_all most_read (so_far []) answers)

-- Grant in single bytes, and with its last byte alone: the same text as in one piece.
pub grant_in_bytes : printed_of (map (λ b. gives (b ∷ [])) grant ++ gives [] ∷ []) ≡ some (answer_text grant)
unfolding built evaluated_text evaluated_program printed_of
grant_in_bytes = refl

pub grant_last_byte_alone : printed_of (gives (take 107 grant) ∷ gives (drop 107 grant) ∷ gives [] ∷ []) ≡ some (answer_text grant)
unfolding built evaluated_text evaluated_program printed_of
grant_last_byte_alone = refl

-- Grant and then an error: nothing is printed, though all of it was there.
pub grant_then_error : printed_of (gives grant ∷ error ∷ []) ≡ none
unfolding built evaluated_text evaluated_program printed_of
grant_then_error = refl
