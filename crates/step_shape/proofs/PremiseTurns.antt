-- Check 13, one premise at a time: what is left of the list decides, from the steps marked so far. Assumes nothing.
use Prim.Native.Nat.{ℕ, ◌+◌, ◌-◌, ◌≤◌, ◌<◌}
use mathlib.Core.Path.{◌≡◌, sym, ap, ◌∙◌}
use mathlib.Core.Bool.{true, false, not, ◌||◌}
use mathlib.Core.List.{List, ◌∷◌}
use lib.ListN.{length}
use lib.Dec.{ltb}
use borrow.Author.Tests.{lt-ltb}
use Rattle.definition.specs.02-Ranges.{listed, update}
use Rattle.definition.specs.15-Records.{premise_step}
use Rattle.definition.specs.22-Steps.{Left, bad_premises, with_used}
use Rattle.tables.specs.Sets.{left_in, used_of}
use Rattle.step_shape.specs.TakenPremises.{takes, Taken}
use Rattle.step_shape.proofs.SpanWalks.{listed_next, listed_end, listed_all}

-- The premises from j on decide as all of them do from the start.
pub record Turn (s : List ℕ) (k from len : ℕ) (before now : List ℕ) (j : ℕ) : Type 0 where
  pub long : length now ≡ 2048
  pub is : bad_premises (used_of before) k (listed (premise_step s) len from) ≡ bad_premises (used_of now) k (listed (premise_step s) (from + len - j) j)
  pub left : with_used (left_in before) (takes (used_of before) k (listed (premise_step s) len from)) ≡ with_used (left_in now) (takes (used_of now) k (listed (premise_step s) (from + len - j) j))

module _ (s : List ℕ) (k from len : ℕ) (before : List ℕ) where
  pub turn_start : length before ≡ 2048 → Turn s k from len before before from
  turn_start long =
      record {
        long = long;
        is = ap (bad_premises (used_of before) k) (sym (listed_all (premise_step s) from len));
        left = ap (λ ps. with_used (left_in before) (takes (used_of before) k ps)) (sym (listed_all (premise_step s) from len));
      }

  module _ (now : List ℕ) (j : ℕ) (t : Turn s k from len before now j) where
    module _ (p : ℕ) (e : p ≡ premise_step s j) (lt : j < from + len) where
      rest : listed (premise_step s) (from + len - j) j ≡ p ∷ listed (premise_step s) (from + len - (j + 1)) (j + 1)
      rest = rw e (listed_next (premise_step s) (from + len) j lt)

      -- the next premise is refused
      pub turn_refused : not (ltb p k) || used_of now p ≡ true → Taken s k from len before true now
      unfolding bad_premises takes
      turn_refused bad = record { long = t.long; is = sym (t.is ∙ rw (rest, bad)); left = sym (t.left ∙ rw (rest, bad)) }

      -- it is taken
      pub turn_next :
          (after : List ℕ) → p < k → used_of now p ≡ false → (length after ≡ 2048) × (left_in after ≡ with_used (left_in now) (update (used_of now) p true)) →
          Turn s k from len before after (j + 1)
      unfolding bad_premises takes
      turn_next after low free marked =
          let below = lt-ltb p k low in
          let up = sym marked.1 in
          let ps = listed (premise_step s) (from + len - (j + 1)) (j + 1) in
          record {
            long = marked.0;
            is = t.is ∙ rw (rest, below, free) (ap (λ (l : ℕ → Left). bad_premises (λ i. (l i).used) k ps) up);
            left = t.left ∙ rw (rest, below, free) (ap (λ (l : ℕ → Left). with_used l (takes (λ i. (l i).used) k ps)) up);
          }

    pub turn_end : from + len ≤ j → Taken s k from len before false now
    unfolding bad_premises takes
    turn_end le =
        record {
          long = t.long;
          is = sym (t.is ∙ rw (listed_end (premise_step s) (from + len) j le));
          left = sym (t.left ∙ rw (listed_end (premise_step s) (from + len) j le));
        }
