-- `check_layout` meets its contract: checks 1 and 2, in order. Assumes nothing.
use Rattle.std.proofs.Common.{rules, Err}
use mathlib.Core.Path.{◌≡◌, sym, ap, ◌∙◌}
use mathlib.Core.Bool.{false}
use Rattle.definition.proofs.CheckLaws.{try_accepts}
use Rattle.definition.proofs.PartLaws.{long_header}
use Rattle.definition.specs.04-Checks.{try, single}
use Rattle.definition.specs.11-Layout.{faulty_part, bad_length, layout_checks}
use Rattle.words.proofs.CheckRuns.{checks_stop, checks_go_on, last_check}
use Rattle.words.specs.Meanings.{run_meant}
use Rattle.case_parts.proofs.layout.check_layout.Goals as goal

pub returns-in_err-single : goal.returns-in_err-single
unfolding layout_checks
returns-in_err-single c =
    let e : c.from_residual.result ≡ Err c.in_err-single.field-0.0 = search rules in
    rw e (checks_stop _ _ _ (c.in_err-single.ensures ∙ ap (λ b. try (single 1 0 b)) c.bad_length.ensures))

pub each-requires-clause-callable : goal.each-requires-clause-callable
unfolding run_meant
each-requires-clause-callable c = λ k below.
    let long : bad_length c.args.file.now ≡ false = sym c.bad_length.ensures ∙ try_accepts _ (sym c.in_ok-single.ensures) in
    let h = long_header _ long in search rules

pub returns : goal.returns
unfolding layout_checks
returns c = c.each.ensures (faulty_part c.args.file.now) (λ k b below post. search rules) ∙ last_check _ ∙
    checks_go_on _ _ _ (c.in_ok-single.ensures ∙ ap (λ b. try (single 1 0 b)) c.bad_length.ensures)
