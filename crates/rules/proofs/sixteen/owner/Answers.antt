-- `owner` meets its contract: the answer about the data tells a row, or the table holds them. Assumes nothing.
use Rattle.std.proofs.Common.{rules, Err}
use mathlib.Core.Path.{◌≡◌}
use Rattle.rules.proofs.ComparedRows.{good_row}
use Rattle.rules.proofs.StrayRuns.{stray_told, clear_told, clear_run}
use Rattle.rules.proofs.sixteen.owner.Goals as goal

pub data_of-requires-clause-good_row : goal.data_of-requires-clause-good_row
data_of-requires-clause-good_row c = (good_row c.requires.numbered.0, c.requires.numbered.1)

pub returns-in_err-many : goal.returns-in_err-many
returns-in_err-many c a =
    let e : c.from_residual.result ≡ Err c.in_err-many.field-0.0 = search rules in
    rw e (stray_told _ _ _ _ _ c.in_err-many.ensures.0)

pub owned-requires-clause-set_len : goal.owned-requires-clause-set_len
owned-requires-clause-set_len c = let l = c.in_ok-many.ensures.1 in
    let many = (clear_told _ _ _ _ c.in_ok-many.ensures.0).1 in
    (l.long, rw many l.few, rw many l.is)

pub owned-requires-clause-f_value : goal.owned-requires-clause-f_value
owned-requires-clause-f_value c = (clear_told _ _ _ _ c.in_ok-many.ensures.0).0

pub returns : goal.returns
returns c a = clear_run _ _ (clear_told _ _ _ _ c.in_ok-many.ensures.0).0 (c.owned.ensures a)
