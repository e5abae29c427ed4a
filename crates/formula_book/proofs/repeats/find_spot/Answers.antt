-- `find_spot` meets its contract: the slot is on row `k`'s way, and each lower row that row `k` repeats stands ahead; at a free slot nothing is left. Assumes nothing.
use Prim.Native.Nat.{◌-◌}
use mathlib.Core.Path.{◌≡◌, sym, ◌∙◌}
use native.Mathlib.Omega.{arith}
use lib.ListN.{get_or}
use Rattle.definition.specs.14-Book.{row_at, same_row}
use Rattle.formula_rows.proofs.RowEquality.{rows_equal}
use Rattle.formula_book.proofs.RowTreeLaws.{met, repeats, ahead_all, ahead_more, ahead_none}
use Rattle.formula_book.proofs.repeats.find_spot.Goals as goal
use Rattle.formula_book.proofs.repeats.find_spot.Goals.{After-eq}

-- What the test says of the two rows of the book.
compared : (c : After-eq) → c.eq.result ≡ same_row (row_at c.args.book.now (get_or c.args.links.now c.loop-slot.slot 0 - 1)) (row_at c.args.book.now c.args.k)
compared c = met _ _ _ c.eq.result _ _ (c.eq.ensures ∙ rows_equal _ _) c.row_at.ensures c.row_at-row.ensures

pub loop-slot-init : goal.loop-slot-init
loop-slot-init c = let b = c.bucket-slot.ensures in
    ahead_all _ _ _ c.requires.2 _ _ _ c.row_at-row.ensures b.is b.below c.key-rest.ensures

pub returns-then-eq : goal.returns-then-eq
returns-then-eq c =
    repeats _ _ (get_or c.args.links.now c.loop-slot.slot 0 - 1) (omega (arith, c.requires.2.low c.loop-slot.slot, c.loop-slot-test.true)) (sym (compared (goal.at.returns-then-eq c).After-eq) ∙ c.if-eq.true)

pub loop-slot-preserved : goal.loop-slot-preserved
loop-slot-preserved c =
    ahead_more _ _ _ c.requires.2 _ _ c.loop-slot.invariant _ (compared (goal.at.loop-slot-preserved c).After-eq) c.if-eq.false c.loop-slot-test.true

pub returns : goal.returns
returns c = ahead_none _ _ _ c.requires.2 _ _ c.loop-slot.invariant (omega (arith, c.loop-slot-test.false))
