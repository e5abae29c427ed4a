-- `refine` meets its contract: by the kind of the first premise. Assumes nothing.
use mathlib.Core.Path.{sym, ◌∙◌}
use Rattle.definition.proofs.Tests.{not_both}
use Rattle.rules.proofs.FormulaParts.{implies_parts, no_premise, refined, unrefined}
use Rattle.rules.proofs.NamedNumbers.{named_so, named_other}
use Rattle.rules.proofs.sixteen.refine.Goals as goal
use Rattle.rules.proofs.sixteen.refine.Goals.{then-is, else-is}

pub returns-then-is_row : goal.returns-then-is_row
returns-then-is_row c a = let row = c.row_of-premise in
    let own = c.row_of-own in
    elim c.if-is.branch [
      | then-is w ↦ let parts = implies_parts row.result c.requires.1 row.ensures (named_so c.is.ensures w.if-is.true) in
          refined row.result c.requires.1 row.ensures _ own.result c.requires.0 own.ensures c.args.case.now.file.now (named_so c.is.ensures w.if-is.true) c.agent_of-agent.ensures
          (w.is_row.ensures _ (w.says.ensures _ parts.first)) (sym w.value-is ∙ c.if-is_row.true) (c.is_row-then-is_row.ensures _ (c.says-then-is_row.ensures _ parts.second)) a
      | else-is w ↦ absurd (not_both (sym w.value-is ∙ c.if-is_row.true) (w.if-is.false))
    ]

pub returns-else-is_row : goal.returns-else-is_row
returns-else-is_row c a = let row = c.row_of-premise in
    let own = c.row_of-own in
    c.if-is_row.false ∙ elim c.if-is.branch [
      | then-is w ↦ let parts = implies_parts row.result c.requires.1 row.ensures (named_so c.is.ensures w.if-is.true) in
          unrefined row.result c.requires.1 row.ensures _ own.result c.requires.0 own.ensures c.args.case.now.file.now (named_so c.is.ensures w.if-is.true) c.agent_of-agent.ensures
          (w.is_row.ensures _ (w.says.ensures _ parts.first)) (sym w.value-is ∙ c.if-is_row.false) a
      | else-is w ↦ no_premise row.result c.requires.1 row.ensures _ (named_other c.is.ensures w.if-is.false) _ _ a
    ]
