-- `check_entry` meets its contract: checks 14 and 15, in order. Assumes nothing.
use Rattle.std.proofs.Common.{rules, Err}
use mathlib.Core.Path.{◌≡◌, ap, ◌∙◌}
use Rattle.definition.specs.04-Checks.{try, single}
use Rattle.words.proofs.CheckRuns.{checks_stop, checks_go_on, last_check}
use Rattle.step_shape.specs.EntryChecks.{entry_checks}
use Rattle.step_shape.proofs.citations.check_entry.Goals as goal

pub returns-in_err-single : goal.returns-in_err-single
unfolding entry_checks
returns-in_err-single c =
    let e : c.from_residual.result ≡ Err c.in_err-single.field-0.0 = search rules in
    rw e (checks_stop _ _ _ c.in_err-single.ensures)

pub returns : goal.returns
unfolding entry_checks
returns c = c.single-2.ensures ∙ ap (λ b. try (single 15 c.args.place b)) (search rules) ∙ last_check _ ∙ checks_go_on _ _ _ c.in_ok-single.ensures
