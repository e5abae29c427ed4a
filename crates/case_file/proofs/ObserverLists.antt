-- A list of observers, entry by entry: whether one is at fault, and whether the agent is among them. Assumes nothing.
use Prim.Native.Nat.{ℕ, suc, ◌+◌, ◌-◌, ◌≤◌, ◌<◌}
use mathlib.Core.Path.{◌≡◌, refl, sym, ap, ◌∙◌}
use mathlib.Core.Bool.{Bool, true, false, cond, not, ◌||◌, or_assoc, or-true, or-false}
use mathlib.Core.List.{List}
use native.Mathlib.Omega.{arith}
use lib.Dec.{eqb, ltb, leb}
use borrow.Author.Tests.{leb-true, leb-false, lt-ltb, le-ltb, eq-eqb, ne_eqb}
use Rattle.definition.specs.02-Ranges.{any}
use Rattle.definition.specs.12-Terms.{agents, class_of, is_object}
use Rattle.definition.specs.15-Records.{observer, bad_observer}
use Rattle.std.specs.Prelude.{Some, None}
use Rattle.case_file.specs.Seen.{list_answer}

-- A walk up to `end` asks the first number, and then the others.
any_first : (p : ℕ → Bool) (j end : ℕ) → j < end → any p (end - j) j ≡ p j || any p (end - (j + 1)) (j + 1)
unfolding any
any_first p j end lt = let e : end - j ≡ suc (end - (j + 1)) = omega arith in rw e

any_past : (p : ℕ → Bool) (j end : ℕ) → end ≤ j → any p (end - j) j ≡ false
unfolding any
any_past p j end le = let e : end - j ≡ 0 = omega arith in rw e

-- The list of `len` observers from `from` on.
module _ (s : List ℕ) (agent from len : ℕ) where
  pub is_agent : ℕ → Bool
  is_agent j = eqb (observer s j) agent

  -- what entry j has to be at least
  pub least : ℕ → ℕ
  least j = cond (eqb j from) 0 (observer s (j - 1) + 1)

  above : (x y : ℕ) → leb x y ≡ ltb x (y + 1)
  above x y = go (leb x y) refl
    where
      go : (b : Bool) → leb x y ≡ b → b ≡ ltb x (y + 1)
      go true e = sym (lt-ltb x (y + 1) (omega (arith, leb-true x y e)))
      go false e = sym (le-ltb x (y + 1) (omega (arith, leb-false x y e)))

  bad_is : (j : ℕ) → bad_observer s from j ≡ not (is_object agents (class_of (observer s j))) || ltb (observer s j) (least j)
  unfolding bad_observer least
  bad_is j = go (eqb j from) refl
    where
      go : (b : Bool) → eqb j from ≡ b → bad_observer s from j ≡ not (is_object agents (class_of (observer s j))) || ltb (observer s j) (least j)
      go true e = rw (e, le-ltb (observer s j) 0 (omega arith))
      go false e = rw (e, above (observer s j) (observer s (j - 1)))

  -- the entries before j are no fault, and `found` says whether the agent is among them
  pub record Looked (low : ℕ) (found : Bool) (j : ℕ) : Type 0 where
    pub past : from ≤ j
    pub due : low ≡ least j
    pub fine : any (bad_observer s from) len from ≡ any (bad_observer s from) (from + len - j) j
    pub among : any is_agent len from ≡ found || any is_agent (from + len - j) j

  pub looked_none : Looked 0 false from
  unfolding least
  looked_none =
      let all : from + len - from ≡ len = omega arith in
      record { past = omega arith; due = rw (eq-eqb from from refl); fine = rw all; among = rw all }

  module _ (low : ℕ) (found : Bool) (j : ℕ) (l : Looked low found j) (inside : j < from + len) where
    bad_entry : bad_observer s from j ≡ true → None ≡ list_answer s agent from len
    unfolding list_answer
    bad_entry e = rw (l.fine ∙ any_first (bad_observer s from) j (from + len) inside, e)

    pub looked_low : observer s j < low → None ≡ list_answer s agent from len
    looked_low lt = bad_entry (rw (bad_is j, ← l.due, lt-ltb (observer s j) low lt, or-true))

    pub looked_other : is_object agents (class_of (observer s j)) ≡ false → None ≡ list_answer s agent from len
    looked_other e = bad_entry (rw (bad_is j, e))

    pub looked_more :
        (now : Bool) → low ≤ observer s j → is_object agents (class_of (observer s j)) ≡ true → now ≡ found || eqb (observer s j) agent →
        Looked (observer s j + 1) now (j + 1)
    unfolding least is_agent
    looked_more now le e is =
        let back : j + 1 - 1 ≡ j = omega arith in
        let good : bad_observer s from j ≡ false = rw (bad_is j, e, ← l.due, le-ltb (observer s j) low le) in
        record {
          past = omega (arith, l.past);
          due = rw (ne_eqb (j + 1) from (λ q. omega (arith, l.past)), back);
          fine = rw (l.fine ∙ any_first (bad_observer s from) j (from + len) inside, good);
          among = rw (l.among ∙ ap (λ b. found || b) (any_first is_agent j (from + len) inside), is, or_assoc);
        }

  pub looked_end : (low : ℕ) (found : Bool) (j : ℕ) → Looked low found j → from + len ≤ j → Some found ≡ list_answer s agent from len
  unfolding list_answer is_agent
  looked_end low found j l le =
      rw (l.fine ∙ any_past (bad_observer s from) j (from + len) le) (ap Some (sym (l.among ∙ stays)))
    where
      stays : found || any is_agent (from + len - j) j ≡ found
      stays = rw (any_past is_agent j (from + len) le, or-false)
