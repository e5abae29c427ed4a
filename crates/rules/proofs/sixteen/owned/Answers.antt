-- `owned` meets its contract: the tests of the definition, and the table holds the data. Assumes nothing.
use mathlib.Core.Path.{sym, ◌∙◌}
use mathlib.Core.Bool.{and-false}
use borrow.Author.Tests.{ne_eqb}
use Rattle.definition.proofs.Tests.{both_first, both_second, not_both}
use Rattle.rules.proofs.OwnedData.{owner_is, other_count, as_counted}
use Rattle.rules.proofs.sixteen.owned.Goals as goal
use Rattle.rules.proofs.sixteen.owned.Goals.{then-many-len, else-many-len}

pub returns-then-grants : goal.returns-then-grants
returns-then-grants c a = let set = c.requires.set_len in
    rw (owner_is c.args.case.now.file.now _ _ c.agent_of-agent.ensures c.requires.f_value a)
    (elim c.if-many-len.branch [
      | then-many-len w ↦ both_second (w.value-is ∙ w.grants.ensures) c.if-grants.true
          (as_counted c.args.case.now.file.now _ _ c.args.set.now set.0 set.1 set.2 c.args.from w.if-many-len.true c.owns_each.ensures)
      | else-many-len w ↦ absurd (not_both (sym w.value-is ∙ c.if-grants.true) (ne_eqb _ _ w.if-many-len.false))
    ])

pub returns-else-grants : goal.returns-else-grants
returns-else-grants c a = let set = c.requires.set_len in
    rw (owner_is c.args.case.now.file.now _ _ c.agent_of-agent.ensures c.requires.f_value a)
    (elim c.if-many-len.branch [
      | then-many-len w ↦ c.if-grants.false ∙ both_first _ (w.value-is ∙ w.grants.ensures) c.if-grants.false
      | else-many-len w ↦ rw (← (other_count c.args.case.now.file.now c.agent_of-agent.result _ c.args.set.now set.0 set.1 set.2 c.args.from w.if-many-len.false), and-false) c.if-grants.false
    ])
