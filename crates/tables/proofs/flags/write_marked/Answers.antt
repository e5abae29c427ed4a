-- `write_marked` meets its contract: a marked number is written behind those before it. Assumes nothing.
use Prim.Native.Nat.{ℕ, ◌+◌, ◌<◌}
use mathlib.Core.Path.{◌≡◌, refl, sym, ap, ap₂, ◌∙◌}
use mathlib.Core.Bool.{Bool, true, false}
use mathlib.Core.List.{List, ◌++◌}
use native.Mathlib.Omega.{arith}
use lib.ListN.{length, drop, set}
use Rattle.std.proofs.Common.{length-take-le}
use Rattle.std.proofs.lemmas.List.{get_or-take}
use Rattle.definition.specs.02-Ranges.{members}
use Rattle.tables.specs.Sets.{marks}
use Rattle.tables.proofs.ListedMembers.{members_hit, count_hit, members_miss, members_more, front_more}
use Rattle.tables.proofs.flags.write_marked.Goals as goal
use Rattle.tables.proofs.flags.write_marked.Goals.{then-marked, else-marked}

pub loop-k-init : goal.loop-k-init
unfolding members
loop-k-init c = (refl, refl)

pub bounds-room-at : goal.bounds-room-at
unfolding marks
bounds-room-at c = let a = c.args in
    let l = c.loop-k in
    let s = marks a.flags.now in
    let below : l.k < a.n = omega (arith, length-take-le {A = Bool}) in
    let hit : s l.k ≡ true = sym (get_or-take a.n a.flags.now l.k false below) ∙ c.if-marked.true in
    omega (arith, count_hit s l.k hit, members_more s (l.k + 1) a.n (omega arith))

pub loop-k-preserved : goal.loop-k-preserved
unfolding marks
loop-k-preserved c = let a = c.args in
    let l = c.loop-k in
    let s = marks a.flags.now in
    let below : l.k < a.n = omega (arith, length-take-le {A = Bool}) in
    let after : List ℕ → List ℕ = λ xs. xs ++ drop (length xs) a.room.now in
    elim c.if-marked.branch [
      | then-marked w ↦
          let hit : s l.k ≡ true = sym (get_or-take a.n a.flags.now l.k false below) ∙ w.if-marked.true in
          let room : l.at < length a.room.now = omega (arith, count_hit s l.k hit, members_more s (l.k + 1) a.n (omega arith)) in (
            omega (arith, count_hit s l.k hit),
            w.room-is ∙ ap₂ (λ (r : List ℕ) (t : ℕ). set r t l.k) l.invariant.1 l.invariant.0
                ∙ front_more (members s l.k 0) a.room.now l.k (omega arith) ∙ sym (ap after (members_hit s l.k hit)),
          )
      | else-marked w ↦
          let miss : s l.k ≡ false = sym (get_or-take a.n a.flags.now l.k false below) ∙ w.if-marked.false in (
            omega (arith, ap length (members_miss s l.k miss)),
            w.room-is ∙ l.invariant.1 ∙ sym (ap after (members_miss s l.k miss)),
          )
    ]
