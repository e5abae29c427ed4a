-- `common_node` meets its contract: its tests are those of `common_node`. Assumes nothing.
use borrow.Author.Tests.{eq-eqb, ne_eqb}
use Rattle.formula_walks.specs.CommonNode.{common_node}
use Rattle.formula_rows.specs.Meanings.{row_meant, node_meant}
use Rattle.formula_walks.proofs.instances.common_node.Goals as goal
use Rattle.formula_walks.proofs.instances.common_node.Goals.{else-body-row-via-then-body-row+else-body-row-2, else-body-row-via-else-body-row}

pub returns-then-body-row-2 : goal.returns-then-body-row-2
unfolding row_meant common_node
returns-then-body-row-2 c = simp (eq-eqb _ _ c.if-body-row.true, eq-eqb _ _ c.if-body-row-2.true) c.from.ensures

pub returns-else-body-row : goal.returns-else-body-row
unfolding row_meant node_meant common_node
returns-else-body-row c =
    elim c.else-body-row.branch [
      | else-body-row-via-then-body-row+else-body-row-2 w ↦ simp (eq-eqb _ _ w.if-body-row.true, ne_eqb _ _ w.if-body-row-2.false)
      | else-body-row-via-else-body-row w ↦ simp (ne_eqb _ _ w.if-body-row.false)
    ]
