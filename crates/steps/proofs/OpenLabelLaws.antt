-- The each-use labels of a file, and what the premises of a step rest on together, one label and one premise at a time. Assumes nothing.
use Prim.Native.Nat.{ℕ, ◌+◌, ◌-◌, ◌≤◌, ◌<◌}
use mathlib.Core.Path.{◌≡◌, refl, sym, ap, ◌∙◌, fun_ext}
use mathlib.Core.Bool.{Bool, true, false, ◌&&◌, ◌||◌, and-false}
use mathlib.Core.List.{List, ◌∷◌}
use native.Mathlib.Omega.{arith}
use lib.Dec.{eqb, ltb}
use borrow.Author.Tests.{lt-ltb, le-ltb, eqb-true, eqb-false, ne_eqb, ltb-true, ltb-false}
use Rattle.definition.specs.02-Ranges.{any, listed, update}
use Rattle.definition.specs.11-Layout.{label_part, count}
use Rattle.definition.specs.15-Records.{label_mark, premise_step}
use Rattle.definition.specs.17-Case.{case_of}
use Rattle.definition.specs.22-Steps.{Labels, no_rests, both_rests, is_each_use, joined, some_cites, together, share}
use Rattle.tables.specs.Sets.{labels_of, rests_meant, rests_of, opens_of}
use Rattle.tables.specs.declared.rests.Resting.{Resting}
use Rattle.steps.specs.OpenLabels.{each_use_below, each_use_labels, OneMore, IsAbove}
use Rattle.steps.specs.declared.uses.Above.{Above}
use Rattle.tables.proofs.Assignments.{any_as}
use Rattle.step_shape.proofs.SpanWalks.{listed_next, listed_end}

-- Of the numbers below l + 1 all but l are below l.
below_next : (j l : ℕ) → (j ≡ l → ⊥) → ltb j (l + 1) ≡ ltb j l
below_next j l ne = go (ltb j l) refl
  where
    go : (b : Bool) → ltb j l ≡ b → ltb j (l + 1) ≡ b
    go true e = let h = ltb-true j l e in lt-ltb j (l + 1) (omega arith)
    go false e = let h = ltb-false j l e in le-ltb j (l + 1) (omega arith)

module _ (s : List ℕ) where
  -- below 0 there is none
  pub none_below : (λ l. false) ≡ each_use_below s 0
  unfolding each_use_below
  none_below = fun_ext (λ l. rw (le-ltb l 0 (omega arith)))

  -- a label that is one is added
  pub one_below : (l : ℕ) → label_mark s l ≡ 1 → update (each_use_below s l) l true ≡ each_use_below s (l + 1)
  unfolding each_use_below update
  one_below l is = fun_ext (λ j. go j (eqb j l) refl)
    where
      go : (j : ℕ) (b : Bool) → eqb j l ≡ b → update (each_use_below s l) l true j ≡ each_use_below s (l + 1) j
      go j true e = let q = eqb-true j l e in rw (e, q, lt-ltb l (l + 1) (omega arith), is)
      go j false e = rw (e, below_next j l (eqb-false j l e))

  -- one that is none is not
  pub other_below : (l : ℕ) → (label_mark s l ≡ 1 → ⊥) → each_use_below s l ≡ each_use_below s (l + 1)
  unfolding each_use_below
  other_below l not_one = fun_ext (λ j. go j (eqb j l) refl)
    where
      go : (j : ℕ) (b : Bool) → eqb j l ≡ b → each_use_below s l j ≡ each_use_below s (l + 1) j
      go j true e = let q = eqb-true j l e in rw (q, ne_eqb (label_mark s l) 1 not_one, and-false, and-false)
      go j false e = rw (below_next j l (eqb-false j l e))

-- A label of each use in two sets: asked of 32 labels, or of those that the file has.
shared_is :
    (s : List ℕ) (p q : Labels) → count s label_part ≤ 32 →
    any (λ l. each_use_labels s l && p l && q l) 32 0 ≡ any (λ l. is_each_use (case_of s) l && p l && q l) (count s label_part) 0
unfolding each_use_labels each_use_below is_each_use case_of
shared_is s p q few =
    any_as (λ l. each_use_labels s l && p l && q l) (λ l. is_each_use (case_of s) l && p l && q l) 32 (count s label_part) few
    (λ l below. rw (lt-ltb l (count s label_part) below))
    (λ l up below. rw (le-ltb l (count s label_part) up))

module _ (s : List ℕ) (left : List ℕ) where
  -- no premise
  pub above_nothing : (j : ℕ) (r : Above) → rests_meant r.rests ≡ no_rests → r.shared ≡ false → IsAbove s j (j - j) left r
  unfolding joined some_cites share
  above_nothing j r e f =
      record {
        rests = e ∙ rw (listed_end (premise_step s) j j (omega arith));
        shared = f ∙ rw (listed_end (premise_step s) j j (omega arith));
      }

  -- one more, before those that are there
  pub above_more :
      (end j p : ℕ) (each_use : ℕ) (premise : Resting) (before after : Above) → count s label_part ≤ 32 → j < end → p ≡ premise_step s j →
      labels_of each_use ≡ each_use_labels s → rests_meant premise ≡ rests_of left p →
      IsAbove s (j + 1) (end - (j + 1)) left before → OneMore (labels_of each_use) (rests_meant premise) before after → IsAbove s j (end - j) left after
  unfolding joined some_cites share case_of
  above_more end j p each_use premise before after few lt e u b h m =
      let ps = listed (premise_step s) (end - (j + 1)) (j + 1) in
      let next : listed (premise_step s) (end - j) j ≡ p ∷ ps = rw e (listed_next (premise_step s) end j lt) in
      record {
        rests = m.rests ∙ (λ i. both_rests (b i) (h.rests i)) ∙ ap (together (rests_of left)) (sym next);
        shared =
            m.shared ∙ (λ i. any (λ l. u i l && (b i).opens l && (h.rests i).opens l) 32 0 || h.shared i)
            ∙ rw (next, shared_is s (opens_of left p) (joined (opens_of left) ps) few);
      }

-- A label that a step adds is one of the file's.
pub added_is :
    (s : List ℕ) (added : Bool) (a : ℕ) (x : Bool) → (added ≡ true → a < count s label_part) →
    (added && each_use_labels s a && x) ≡ (added && is_each_use (case_of s) a && x)
unfolding each_use_labels each_use_below is_each_use case_of
added_is s true a x there = rw (lt-ltb a (count s label_part) (there refl))
added_is s false a x there = refl
