-- What the code's types stand for: each case as the definition's.
use Rattle.std.specs.Prelude.{ℕ, Result, Ok, Err}
use Rattle.definition.specs.04-Checks.{Checked, accepts, refuses}
use Rattle.words.specs.declared.runs.Check.{Check}
use Rattle.words.specs.declared.runs.Check.TheVariants as check
use Rattle.words.specs.declared.runs.Refusal.{Refusal}

abbrev pub check_number : Check → ℕ
check_number check.Length = 1
check_number check.Part = 2
check_number check.Formula = 3
check_number check.RepeatedFormula = 4
check_number check.LogRow = 5
check_number check.Condition = 6
check_number check.Obligation = 7
check_number check.Label = 8
check_number check.Audited = 9
check_number check.NoSteps = 10
check_number check.NothingOwed = 11
check_number check.Shape = 12
check_number check.Premise = 13
check_number check.AbsentEntry = 14
check_number check.BeyondEntries = 15
check_number check.UnseenRow = 16
check_number check.UsedTwice = 17
check_number check.Misfit = 18
check_number check.NotFresh = 19
check_number check.UnusedStep = 20
check_number check.OpenLabel = 21
check_number check.WrongEnd = 22
check_number check.ShortRoom = 23
check_number check.PremiseKind = 24
check_number check.PremiseParty = 25
check_number check.Instance = 26
check_number check.DataVariable = 27
check_number check.NoTautology = 28
check_number check.ShortIndex = 29
check_number check.OtherIndex = 30
check_number check.Undone = 31
check_number check.NamedAgain = 32
check_number check.Pair = 33

-- A run of checks that answers an A where none fails.
unfoldable pub run_meant : {A : Type 0} → Result A Refusal → Checked A
run_meant (Ok a) = accepts a
run_meant (Err r) = refuses (check_number r.check) r.place
