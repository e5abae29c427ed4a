-- `explained` meets its contract: checks 24, 25, 26 and 18, in order. Assumes nothing.
use Rattle.std.proofs.Common.{rules, Err}
use mathlib.Core.Path.{◌≡◌, sym, ◌∙◌}
use native.Mathlib.Omega.{arith}
use Rattle.definition.specs.22-Steps.{misfit_checks}
use Rattle.words.proofs.CheckRuns.{checks_stop, checks_go_on, last_check}
use Rattle.rules.specs.Misfits.{regard_meant}
use Rattle.rules.proofs.ShapedStepLaws.{premises_there, kind_is, party_is, place_few, of_fault}
use Rattle.rules.proofs.fit.explained.Goals as goal

pub overflow_cast-place : goal.overflow_cast-place
overflow_cast-place c = omega (arith, place_few c.args.case.now.lent.lent c.requires.shaped_step.0 c.requires.shaped_step.1)

pub premises_lack-kind-requires : goal.premises_lack-kind-requires
premises_lack-kind-requires c = record { premises = premises_there c.args.case.now.lent.lent c.requires.shaped_step.0 c.requires.shaped_step.1 }

pub premises_lack-party-requires : goal.premises_lack-party-requires
premises_lack-party-requires c = record { premises = premises_there c.args.case.now.lent.lent c.requires.shaped_step.0 c.requires.shaped_step.1 }

pub returns-in_err-single : goal.returns-in_err-single
unfolding misfit_checks regard_meant
returns-in_err-single c =
    let e : c.from_residual.result ≡ Err c.in_err-single.field-0.0 = search rules in
    rw e (checks_stop _ _ _ (of_fault _ _ (c.premises_lack-kind.ensures ∙ kind_is c.args.case.now.lent.lent c.requires.shaped_step.0 c.requires.shaped_step.1 c.requires.rule_is) c.in_err-single.ensures))

pub returns-in_err-single-2 : goal.returns-in_err-single-2
unfolding misfit_checks regard_meant
returns-in_err-single-2 c =
    let e : c.from_residual-in_err-single-2.result ≡ Err c.in_err-single-2.field-0.0 = search rules in
    rw e (checks_stop _ _ _ (of_fault _ _ (c.premises_lack-party.ensures ∙ party_is c.args.case.now.lent.lent c.requires.shaped_step.0 c.requires.shaped_step.1 c.requires.rule_is c.agent_of-agent.ensures) c.in_err-single-2.ensures) ∙ checks_go_on _ _ _ (of_fault _ _ (c.premises_lack-kind.ensures ∙ kind_is c.args.case.now.lent.lent c.requires.shaped_step.0 c.requires.shaped_step.1 c.requires.rule_is) c.in_ok-single.ensures))

pub returns-in_err-single-3 : goal.returns-in_err-single-3
unfolding misfit_checks regard_meant
returns-in_err-single-3 c =
    let e : c.from_residual-in_err-single-3.result ≡ Err c.in_err-single-3.field-0.0 = search rules in
    rw e (checks_stop _ _ _ (of_fault _ _ c.wrong_instance.ensures c.in_err-single-3.ensures) ∙ checks_go_on _ _ _ (of_fault _ _ (c.premises_lack-party.ensures ∙ party_is c.args.case.now.lent.lent c.requires.shaped_step.0 c.requires.shaped_step.1 c.requires.rule_is c.agent_of-agent.ensures) c.in_ok-single-2.ensures) ∙ checks_go_on _ _ _ (of_fault _ _ (c.premises_lack-kind.ensures ∙ kind_is c.args.case.now.lent.lent c.requires.shaped_step.0 c.requires.shaped_step.1 c.requires.rule_is) c.in_ok-single.ensures))

pub returns : goal.returns
unfolding misfit_checks regard_meant
returns c = of_fault _ _ (sym c.requires.k_value) c.single-4.ensures ∙ last_check _ ∙ checks_go_on _ _ _ (of_fault _ _ c.wrong_instance.ensures c.in_ok-single-3.ensures) ∙ checks_go_on _ _ _ (of_fault _ _ (c.premises_lack-party.ensures ∙ party_is c.args.case.now.lent.lent c.requires.shaped_step.0 c.requires.shaped_step.1 c.requires.rule_is c.agent_of-agent.ensures) c.in_ok-single-2.ensures) ∙ checks_go_on _ _ _ (of_fault _ _ (c.premises_lack-kind.ensures ∙ kind_is c.args.case.now.lent.lent c.requires.shaped_step.0 c.requires.shaped_step.1 c.requires.rule_is) c.in_ok-single.ensures)
