-- What the agent sees of each row is the same in two logs whose rows are alike to it: a seen row shows its action, and an unseen one nothing. When a row shows an action. And who sees a row whose span is all there. Assumes nothing.
use Prim.Native.Nat.{ℕ, ◌+◌, ◌≤◌, ◌<◌}
use mathlib.Core.Bool.{Bool, true, false, cond, ◌&&◌, and-false, false≢true}
use mathlib.Core.Path.{◌≡◌, refl, ap}
use mathlib.Core.Logic.{inl, inr, ◌↔◌}
use mathlib.Core.List.{List}
use native.Mathlib.Omega.{arith}
use lib.Dec.{eqb, ltb}
use borrow.Author.Tests.{ltb-true, lt-ltb, eqb-true, eq-eqb}
use Rattle.definition.proofs.RangeLaws.{any_agrees}
use Rattle.definition.proofs.Tests.{and_is, below_is, itself_is, not_both}
use Rattle.definition.specs.01-Words.{absent}
use Rattle.definition.specs.02-Ranges.{any}
use Rattle.definition.specs.13-Formulas.{Formula}
use Rattle.definition.specs.14-Book.{tree_in}
use Rattle.definition.specs.15-Records.{Log, rows_in, observers_in, row_action, row_from, row_count, observer}
use Rattle.definition.specs.16-Views.{seen_in, hidden, struck, shows, view_of, row_view}
use Rattle.definition.specs.43-Alike.{RowAlike, LogAlike}

pub views_alike : (agent : ℕ) (g h : Log) → LogAlike agent g h → (l : List Formula) (k : ℕ) → row_view g agent l k ≡ row_view h agent l k
unfolding row_view view_of
views_alike agent g h a l k = go (ltb k (rows_in g)) refl
  where
    inside : RowAlike agent g h k → view_of l (seen_in g agent k) (row_action g k) ≡ view_of l (seen_in h agent k) (row_action h k)
    inside (inl both) = rw (both.0, both.1, both.2)
    inside (inr neither) = rw (neither.0, neither.1)

    go : (b : Bool) → ltb k (rows_in g) ≡ b → row_view g agent l k ≡ row_view h agent l k
    go true e = rw (← a.rows, e) (inside (a.row k (ltb-true k (rows_in g) e)))
    go false e = rw (← a.rows, e)

-- An unseen row shows nothing.
pub unseen_hidden : (g : Log) (agent : ℕ) (l : List Formula) (k : ℕ) → seen_in g agent k ≡ false → row_view g agent l k ≡ hidden
unfolding row_view view_of
unseen_hidden g agent l k e = rw (e, and-false)

-- What a view shows is the action of its row, which is there; and so of a row of a log.
view_shows :
    (l : List Formula) (seen : Bool) (a : ℕ) (f : Formula) → (view_of l seen a ≡ shows f) ↔ ((seen ≡ true) × (a ≡ absent → ⊥) × (tree_in l a ≡ f))
unfolding view_of
view_shows l false a f = (λ e. absurd (let z : ◌≡◌ {A = ℕ} 0 1 = cc in omega arith), λ w. absurd (false≢true w.0))
view_shows l true a f = go (eqb a absent) refl
  where
    go : (b : Bool) → eqb a absent ≡ b → (cond b struck (shows (tree_in l a)) ≡ shows f) ↔ ((true ≡ true) × (a ≡ absent → ⊥) × (tree_in l a ≡ f))
    go true e = (λ q. absurd (let z : ◌≡◌ {A = ℕ} 0 1 = cc in omega arith), λ w. absurd (w.1 (eqb-true a absent e)))
    go false e = (λ q. (refl, λ is. not_both (eq-eqb a absent is) e, cc), λ w. ap shows w.2)

pub row_shows :
    (g : Log) (agent : ℕ) (l : List Formula) (k : ℕ) (f : Formula) →
    (row_view g agent l k ≡ shows f) ↔ ((k < rows_in g) × (seen_in g agent k ≡ true) × (row_action g k ≡ absent → ⊥) × (tree_in l (row_action g k) ≡ f))
unfolding row_view
row_shows g agent l k f =
    let v = view_shows l (ltb k (rows_in g) && seen_in g agent k) (row_action g k) f in
    let t = and_is (below_is k (rows_in g)) (itself_is (seen_in g agent k)) in (
      λ e. let w = v.0 e in let s = t.0 w.0 in (s.0, s.1, w.1, w.2),
      λ w. v.1 (t.1 (w.0, w.1), w.2, w.3),
    )

-- An agent sees such a row if it is among the observers of its span.
pub seen_any : (g : Log) (agent k : ℕ) → row_from g k + row_count g k ≤ observers_in g → seen_in g agent k ≡ any (λ j. eqb (observer g.observers j) agent) (row_count g k) (row_from g k)
unfolding seen_in
seen_any g agent k within =
    any_agrees (λ j. ltb j (observers_in g) && eqb (observer g.observers j) agent) (λ j. eqb (observer g.observers j) agent) (row_count g k) (row_from g k)
    (λ j from below. rw (lt-ltb j (observers_in g) (omega arith)))
