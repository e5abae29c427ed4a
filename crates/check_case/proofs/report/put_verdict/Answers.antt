-- Each arm writes the line of its verdict.
use Rattle.std.proofs.Common.{rules, ◌≡◌}
use Rattle.checker.specs.Meanings.{verdict_meant}
use Rattle.definition.specs.31-Outcome.{passed, none_owed, refused}
use Rattle.definition.specs.33-Text.{verdict_line}
use Rattle.check_case.proofs.report.put_verdict.Goals as goal

pub returns-in-Ok-Passed : goal.returns-in-Ok-Passed
unfolding verdict_line verdict_meant
returns-in-Ok-Passed c = let e : verdict_meant c.args.verdict ≡ passed c.in-Ok-Passed.obligations c.in-Ok-Passed.rows = search rules in rw e c.put_pair.ensures

pub returns-in-Ok-NoneOwed : goal.returns-in-Ok-NoneOwed
unfolding verdict_line verdict_meant
returns-in-Ok-NoneOwed c = let e : verdict_meant c.args.verdict ≡ none_owed = search rules in rw e c.put_word.ensures

pub returns-in-Err : goal.returns-in-Err
unfolding verdict_line verdict_meant
returns-in-Err c = let e : verdict_meant c.args.verdict ≡ refused c.number.result c.in-Err.refusal.place = search rules in rw e c.put_pair-in-Err.ensures
