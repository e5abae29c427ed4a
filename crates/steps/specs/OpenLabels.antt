-- What the steps above a step rest on, the labels that are open above it, and checks 17 and 19 over them.
use Rattle.std.specs.Prelude.{ℕ, Bool, ◌&&◌, ◌||◌, ◌≡◌, List, eqb, ltb}
use Rattle.definition.specs.02-Ranges.{any, listed}
use Rattle.definition.specs.11-Layout.{label_part, count}
use Rattle.definition.specs.13-Formulas.{each_use, this_term, has}
use Rattle.definition.specs.15-Records.{premise_step, label_mark}
use Rattle.definition.specs.17-Case.{Case, case_of}
use Rattle.definition.specs.22-Steps.{Labels, Rests, State, rests_in, opens_in, both_rests, premises_of, is_an_obligation, is_adding, is_each_use, together, share}
use Rattle.tables.specs.Sets.{labels_of, rests_meant, marks, rests_of, opens_of}
use Rattle.step_shape.specs.RuleLines.{RuleShape}
use Rattle.steps.specs.declared.uses.Above.{Above}

-- Labels of each use, among the first n, and among all of the file.
unfoldable pub each_use_below : List ℕ → (n : ℕ) → Labels
each_use_below s n l = ltb l n && eqb (label_mark s l) each_use

unfoldable pub each_use_labels : List ℕ → Labels
each_use_labels s = each_use_below s (count s label_part)

-- One premise more, held against those that are there.
pub record OneMore (each_uses : Labels) (premise : Rests) (before after : Above) : Type 0 where
  pub rests : rests_meant after.rests ≡ both_rests premise (rests_meant before.rests)
  pub shared : after.shared ≡ (any (λ l. each_uses l && premise.opens l && labels_of before.rests.opens.bits l) 32 0 || before.shared)

-- What the premises of the span rest on together, and whether two of them share an each-use label.
pub record IsAbove (s : List ℕ) (from len : ℕ) (left : List ℕ) (r : Above) : Type 0 where
  pub rests : rests_meant r.rests ≡ together (rests_of left) (listed (premise_step s) len from)
  pub shared : r.shared ≡ share (case_of s) (opens_of left) (listed (premise_step s) len from)

-- The same of the premises of step k, in a state in which the steps rest on what the first table has, and the obligations of the second are discharged.
pub record UsesIn (c : Case) (k : ℕ) (left : List ℕ) (discharged : List Bool) (above : Above) (s : State) : Type 0 where
  pub spent : s.discharged ≡ marks discharged
  pub table : rests_in s ≡ rests_of left
  pub rests_are : rests_meant above.rests ≡ together (rests_in s) (premises_of c k)
  pub shared_is : above.shared ≡ share c (opens_in s) (premises_of c k)

-- Check 17, from the obligations discharged before, the labels that the premises leave open together, and whether two of them share an each-use label.
unfoldable pub twice_used : Case → RuleShape → ℕ → (discharged : ℕ → Bool) → (above : Labels) → (shared : Bool) → Bool
twice_used c r a discharged above shared =
    (is_an_obligation r.names && eqb (c.obligation a).mark each_use && discharged a)
    || shared
    || (is_adding r.effect && is_each_use c a && above a)

-- Does the term stand in the formula of a label of the set?
unfoldable pub in_open_labels : Case → ℕ → Labels → Bool
in_open_labels c a above = any (λ l. above l && has (this_term a) 0 (c.label l).formula) c.labels 0

-- Check 19, from the labels that the premises leave open together.
unfoldable pub stale_term : Case → ℕ → (above : Labels) → Bool
stale_term c k above =
    let a = (c.step k).argument in
    eqb (c.step k).rule 14 && (has (this_term a) 0 (c.step k).formula || in_open_labels c a above)
