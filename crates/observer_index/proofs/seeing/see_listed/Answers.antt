-- `see_listed` meets its contract. The loop's invariant: the agent is none of the first `i` agents of the index. Assumes nothing.
use Prim.Native.Nat.{◌+◌, ◌*◌, ◌≤◌}
use native.Mathlib.Omega.{arith}
use lib.ListN.{length, get_or}
use Rattle.case_file.specs.Seen.{log_with}
use Rattle.observer_index.specs.OwnList.{Listed}
use Rattle.observer_index.proofs.SeenRows.{heads_there, list_there, seen_at_head, unlisted_sees}
use Rattle.observer_index.proofs.seeing.see_listed.Goals as goal
use Rattle.observer_index.proofs.seeing.see_listed.Goals.{In-loop-i, Start}

-- The heads are there.
heads : (st : Start) → 1 + 3 * get_or st.args.index.now 0 0 ≤ length st.args.index.now
heads st =
    let is = st.requires.0 in heads_there (log_with st.args.rows.now is.observers) is.ordered st.args.index.now is.as_built

-- The list of the head in turn.
list : (c : In-loop-i) → Listed c.args.rows.now c.args.index.now (get_or c.args.index.now (1 + 3 * c.loop-i.i + 1) 0) (get_or c.args.index.now (1 + 3 * c.loop-i.i + 2) 0)
list c =
    let is = c.requires.0 in
    list_there (log_with c.args.rows.now is.observers) is.ordered c.args.index.now is.as_built c.loop-i.i c.loop-i-test.true

pub bounds-index-0 : goal.bounds-index-0
bounds-index-0 c = omega (arith, heads (goal.at.bounds-index-0 c).Start)

pub bounds-index-place : goal.bounds-index-place
bounds-index-place c = omega (arith, heads (goal.at.bounds-index-place c).Start, c.loop-i-test.true)

pub bounds-index-place-then-index-place : goal.bounds-index-place-then-index-place
bounds-index-place-then-index-place c = omega (arith, heads (goal.at.bounds-index-place-then-index-place c).Start, c.loop-i-test.true)

pub bounds-index-place-then-index-place-2 : goal.bounds-index-place-then-index-place-2
bounds-index-place-then-index-place-2 c = omega (arith, heads (goal.at.bounds-index-place-then-index-place-2 c).Start, c.loop-i-test.true)

pub mark_rows-requires : goal.mark_rows-requires
mark_rows-requires c = (list (goal.at.mark_rows-requires c).In-loop-i, rw c.loop-i.invariant.0 c.requires.1.long)

pub returns-then-index-place : goal.returns-then-index-place
returns-then-index-place c = λ o ordered same. seen_at_head (log_with c.args.rows.now o) ordered c.args.index.now same c.loop-i.i c.loop-i-test.true _ c.if-index-place.true c.requires.1 (rw c.loop-i.invariant.0 at c.mark_rows.ensures)

pub returns : goal.returns
returns c = let l = c.loop-i in
    λ o ordered same. rw l.invariant.0 (unlisted_sees (log_with c.args.rows.now o) ordered c.args.index.now same _ c.requires.1 (λ x lt. l.invariant.1 x (omega (arith, lt, c.loop-i-test.false))))
