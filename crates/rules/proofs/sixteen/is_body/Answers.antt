-- `is_body` meets its contract: the body is the one that the for-all's row names. Assumes nothing.
use mathlib.Core.Path.{◌∙◌}
use Rattle.rules.proofs.ComparedRows.{good_row, kind_is}
use Rattle.rules.proofs.FormulaParts.{for_all_body, for_all_policy, body_with_lem}
use Rattle.rules.proofs.sixteen.is_body.Goals as goal

pub is_body_with-requires : goal.is_body_with-requires
is_body_with-requires c = let row = c.row_of-row in
    let n = c.requires.numbered in
    let kind = kind_is row.result n.0 row.ensures ∙ c.requires.g_value in
    record { good_row = (good_row (for_all_body row.result n.0 row.ensures kind), for_all_policy row.result n.0 row.ensures kind); good_row_2 = good_row n.1 }

pub returns : goal.returns
returns c = let row = c.row_of-row in
    let n = c.requires.numbered in
    rw (body_with_lem row.result n.0 row.ensures _ (kind_is row.result n.0 row.ensures ∙ c.requires.g_value) c.sort_of-sort.ensures) c.is_body_with.ensures
