-- What the code's verdict stands for: each case as the definition's.
use Rattle.std.specs.Prelude.{Result, Ok, Err}
use Rattle.definition.specs.31-Outcome as definition
use Rattle.checker.specs.declared.verdict.Verdict.{Verdict}
use Rattle.checker.specs.declared.verdict.Verdict.TheVariants.{Passed, NoneOwed}
use Rattle.words.specs.declared.runs.Refusal.{Refusal}
use Rattle.words.specs.Meanings.{check_number}

unfoldable pub verdict_meant : Result Verdict Refusal → definition.Verdict
verdict_meant (Ok (Passed d r)) = definition.passed d r
verdict_meant (Ok NoneOwed) = definition.none_owed
verdict_meant (Err r) = definition.refused (check_number r.check) r.place
