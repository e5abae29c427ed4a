-- `seen_row` meets its contract: a row shows its action or nothing, and the action has a conclusion or none. Assumes nothing.
use mathlib.Core.Path.{sym, ap, ◌∙◌}
use Rattle.case_file.specs.Meanings.{view_meant}
use Rattle.rules.proofs.SeenRowRule.{row_few, shown_numbered, seen_policy, unseen}
use Rattle.rules.proofs.sixteen.seen_row.Goals as goal

pub view_at-requires : goal.view_at-requires
view_at-requires c = (row_few c.args.case.now.lent c.args.row c.requires.row_bound, c.args.case.now.lent.long)

pub returns-in_default : goal.returns-in_default
returns-in_default c = sym (unseen c.args.case.now.lent c.args.row c.requires.row_bound c.view_at.result c.view_at.ensures c.in_default.not-Shows _)

pub conclusion_of-conclusion-requires : goal.conclusion_of-conclusion-requires
conclusion_of-conclusion-requires c = shown_numbered c.args.case.now.lent c.args.row c.requires.row_bound c.in-Shows.action (λ l. ap (view_meant l) (sym c.in-Shows.is) ∙ c.view_at.ensures l)

pub returns : goal.returns
returns c = c.is_that.ensures
    ∙ sym (seen_policy c.args.case.now.lent c.args.row c.requires.row_bound c.in-Shows.action (λ l. ap (view_meant l) (sym c.in-Shows.is) ∙ c.view_at.ensures l) c.agent_of-agent.ensures
    c.conclusion_of-conclusion.result c.conclusion_of-conclusion.ensures _)
