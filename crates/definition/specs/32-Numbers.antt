-- Answers as C gets them, in numbers.
use Rattle.std.specs.Prelude.{ℕ, List, [], ◌∷◌}
use Rattle.definition.specs.04-Checks.{Checked, accepts, refuses}
use Rattle.definition.specs.31-Outcome.{Verdict, passed, none_owed, refused}

-- A verdict: its kind, then the two values of the case, 0 where it has none.
pub record VerdictNumbers : Type 0 where
  pub kind : ℕ
  pub first : ℕ
  pub second : ℕ

unfoldable pub verdict_numbers : Verdict → VerdictNumbers
verdict_numbers (passed d r) = record { kind = 0; first = d; second = r }
verdict_numbers none_owed = record { kind = 1; first = 0; second = 0 }
verdict_numbers (refused n p) = record { kind = 2; first = n; second = p }

-- The same as an entry of a table of verdicts.
unfoldable pub verdict_entry : Verdict → List ℕ
verdict_entry v = let n = verdict_numbers v in n.kind ∷ n.first ∷ n.second ∷ []

-- What a run of checks comes to: the number of the check that fails and its place, or 0 and 0.
pub record RunNumbers : Type 0 where
  pub number : ℕ
  pub place : ℕ

unfoldable pub run_numbers : Checked (Unit {0}) → RunNumbers
run_numbers (accepts x) = record { number = 0; place = 0 }
run_numbers (refuses n p) = record { number = n; place = p }

-- An answer that is a count or a refusal, in the fields of a verdict: a count is kind 0. So it is told how many entries an index has that was built, and how many files of a night were checked.
unfoldable pub count_numbers : Checked ℕ → VerdictNumbers
count_numbers (accepts n) = record { kind = 0; first = n; second = 0 }
count_numbers (refuses n p) = record { kind = 2; first = n; second = p }

-- What an evaluation unfolds of this file.
unfoldable pub evaluated_numbers : Unit {0}
unfolding verdict_numbers verdict_entry run_numbers count_numbers
evaluated_numbers = tt
