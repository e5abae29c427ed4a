-- `done_by` meets its contract: no row named, or what the table of views has for the row. Assumes nothing.
use mathlib.Core.Path.{ap, ◌∙◌}
use mathlib.Core.Bool.{not}
use native.Mathlib.Omega.{arith}
use borrow.Author.Tests.{eq-eqb}
use Rattle.definition.specs.14-Book.{tree_in}
use Rattle.definition.specs.15-Records.{formulas}
use Rattle.definition.specs.23-Duties.{carries}
use Rattle.case_file.specs.Meanings.{view_meant}
use Rattle.case_file.proofs.LentCaseLaws.{parted, rows_few}
use Rattle.duties.proofs.DoneDuties.{not_named, inside, done_viewed, done_shown}
use Rattle.duties.proofs.kept.done_by.Goals as goal

pub view_at-requires : goal.view_at-requires
view_at-requires c = let lent = c.args.case.now.lent in
    (omega (arith, inside lent c.args.row c.requires.row_value.0 c.if-row-ne-ABSENT.true, rows_few _ (parted lent.lent)), lent.long)

pub returns-in-Hidden : goal.returns-in-Hidden
unfolding view_meant carries
returns-in-Hidden c = done_viewed c.args.case.now.lent c.args.row c.requires.row_value.0 c.if-row-ne-ABSENT.true (c.in-Hidden.ensures (formulas c.args.case.now.file.now)) _

pub returns-in-Struck : goal.returns-in-Struck
unfolding view_meant carries
returns-in-Struck c = done_viewed c.args.case.now.lent c.args.row c.requires.row_value.0 c.if-row-ne-ABSENT.true (c.in-Struck.ensures (formulas c.args.case.now.file.now)) _

pub returns-in-Shows : goal.returns-in-Shows
unfolding view_meant
returns-in-Shows c =
    done_shown c.args.case.now.lent c.args.row c.requires.row_value.0 c.if-row-ne-ABSENT.true _ _ (c.in-Shows.ensures (formulas c.args.case.now.file.now)) c.requires.row_value.1

pub returns-else-row-ne-ABSENT : goal.returns-else-row-ne-ABSENT
returns-else-row-ne-ABSENT c = let a = c.args in
    ap not (eq-eqb a.row 65535 c.if-row-ne-ABSENT.false) ∙ not_named a.case.now.file.now a.row (tree_in (formulas a.case.now.file.now) a.action) c.if-row-ne-ABSENT.false
