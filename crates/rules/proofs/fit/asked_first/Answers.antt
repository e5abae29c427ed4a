-- `asked_first` meets its contract: the rules that ask something, and the others. Assumes nothing.
use mathlib.Core.Logic.{inl, inr}
use mathlib.Core.Path.{sym}
use Rattle.definition.specs.21-Rules.{in_turn, of_every, rule, rules, rule_at}
use Rattle.rules.specs.Misfits.{asked_meant}
use Rattle.case_parts.specs.declared.named.Rule.TheVariants.{Say, Refine, Owner, AndLeft, AndRight, ImpliesElim, DutyByObligation, DutyByLabel, ForAllElim}
use Rattle.rules.proofs.NamedNumbers.{one_rule, rule_few}
use Rattle.rules.proofs.RuleNumbers.{nothing_first}
use Rattle.rules.proofs.fit.asked_first.Goals as goal

pub returns-in-Say : goal.returns-in-Say
unfolding asked_meant rule rules rule_at in_turn of_every
returns-in-Say c = rw c.in-Say.is

pub returns-in-Refine : goal.returns-in-Refine
unfolding asked_meant rule rules rule_at in_turn of_every
returns-in-Refine c = elim c.in-Refine.is [ inl e ↦ rw e | inr e ↦ rw e ]

pub returns-in-Owner : goal.returns-in-Owner
unfolding asked_meant rule rules rule_at in_turn of_every
returns-in-Owner c = rw c.in-Owner.is

pub returns-in-AndLeft : goal.returns-in-AndLeft
unfolding asked_meant rule rules rule_at in_turn of_every
returns-in-AndLeft c = elim c.in-AndLeft.is [ inl e ↦ rw e | inr e ↦ rw e ]

pub returns-in-DutyByObligation : goal.returns-in-DutyByObligation
unfolding asked_meant rule rules rule_at in_turn of_every
returns-in-DutyByObligation c = elim c.in-DutyByObligation.is [ inl e ↦ rw e | inr e ↦ rw e ]

pub returns-in-ForAllElim : goal.returns-in-ForAllElim
unfolding asked_meant rule rules rule_at in_turn of_every
returns-in-ForAllElim c = rw c.in-ForAllElim.is

pub returns-in_default : goal.returns-in_default
unfolding asked_meant
returns-in_default c =
    let r = c.args.rule in
    let not = c.in_default in
    sym (nothing_first _ (rule_few r) ((λ e. not.not-Say (one_rule r Say e)), ((λ e. not.not-Refine (one_rule r Refine e)), ((λ e. not.not-Owner (one_rule r Owner e)), ((λ e. not.not-AndLeft (one_rule r AndLeft e)), ((λ e. not.not-AndRight (one_rule r AndRight e)), ((λ e. not.not-ImpliesElim (one_rule r ImpliesElim e)), ((λ e. not.not-DutyByObligation (one_rule r DutyByObligation e)), ((λ e. not.not-DutyByLabel (one_rule r DutyByLabel e)), ((λ e. not.not-ForAllElim (one_rule r ForAllElim e)), tt))))))))))
