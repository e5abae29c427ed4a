-- `asked_of` meets its contract: of the others than the first, rules 4 and 5 ask something. Assumes nothing.
use mathlib.Core.Path.{sym}
use native.Mathlib.Omega.{arith}
use Rattle.definition.specs.21-Rules.{in_turn, of_every, rule, rules, rule_at}
use Rattle.case_parts.specs.declared.named.Rule.TheVariants.{Refine, Owner}
use Rattle.rules.specs.Misfits.{asked_meant}
use Rattle.rules.proofs.NamedNumbers.{one_rule, rule_few}
use Rattle.rules.proofs.RuleNumbers.{nothing_further, behind_refine}
use Rattle.rules.proofs.fit.asked_of.Goals as goal

pub returns-then-i-eq0 : goal.returns-then-i-eq0
returns-then-i-eq0 c = rw c.if-i-eq0.true c.asked_first.ensures

pub returns-in-Owner : goal.returns-in-Owner
unfolding asked_meant rule rules rule_at of_every
returns-in-Owner c = rw c.in-Owner.is

pub returns-then-i-eq1 : goal.returns-then-i-eq1
unfolding asked_meant rule rules rule_at in_turn
returns-then-i-eq1 c = rw (c.in-Refine.is, c.if-i-eq1.true)

pub returns-else-i-eq1 : goal.returns-else-i-eq1
unfolding asked_meant
returns-else-i-eq1 c = rw c.in-Refine.is (sym (behind_refine _ (omega (arith, c.if-i-eq0.false, c.if-i-eq1.false))))

pub returns-in_default : goal.returns-in_default
unfolding asked_meant
returns-in_default c =
    let r = c.args.rule in
    sym (nothing_further _ (rule_few r) (λ e. c.in_default.not-Refine (one_rule r Refine e)) (λ e. c.in_default.not-Owner (one_rule r Owner e)) _ (omega (arith, c.if-i-eq0.false)))
