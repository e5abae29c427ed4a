-- What the loop keeps.
use Prim.Native.Nat.{ℕ, ◌+◌, ◌*◌, ◌<◌}
use mathlib.Core.Path.{◌≡◌}
use lib.ListN.{get_or}
use Rattle.observer_index.proofs.seeing.see_listed.Given as goal

abbrev pub invariant-loop-i : goal.invariant-loop-i
invariant-loop-i l = (l.views ≡ l.initial.views) × ((x : ℕ) → x < l.i → get_or l.index (1 + 3 * x) 0 ≡ l.agent → ⊥)
