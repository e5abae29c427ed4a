-- `check_named_again` meets its contract: the loop ends at the lowest fault, or has passed all obligations. Assumes nothing.
use Rattle.std.proofs.Common.{arith}
use mathlib.Core.Path.{refl, sym, ◌∙◌}
use Rattle.definition.proofs.CheckLaws.{try_fails, try_holds}
use Rattle.definition.specs.17-Case.{case_of}
use Rattle.words.specs.Meanings.{run_meant}
use Rattle.case_file.proofs.LentCaseLaws.{parted, obligations_few}
use Rattle.duties.proofs.NamedRows.{none_named}
use Rattle.duties.proofs.named.check_named_again.Goals as goal

pub loop-o-init : goal.loop-o-init
loop-o-init c = record { passed = λ k below. absurd (omega arith); named = none_named (case_of c.args.case.now.file.now) }

pub overflow_cast-result : goal.overflow_cast-result
overflow_cast-result c = omega (arith, c.count_of-o-end.ensures.0, obligations_few _ (parted c.args.case.now.lent.lent))

pub returns-then-names_again : goal.returns-then-names_again
unfolding run_meant
returns-then-names_again c = sym (try_fails _ _ _ (refl, (omega (arith, c.count_of-o-end.ensures.0, c.loop-o-test.true), sym c.names_again.ensures.0 ∙ c.if-names_again.true, c.loop-o.invariant.passed)))

pub returns : goal.returns
unfolding run_meant
returns c = sym (try_holds _ (λ k below. c.loop-o.invariant.passed k (omega (arith, c.count_of-o-end.ensures.0))))
