-- What a step cites has its place in the code's tables, once checks 14 to 16 have let it pass. By what the rule's argument names. Assumes nothing.
use Prim.Native.Nat.{ℕ, zero, suc, ◌<◌}
use mathlib.Core.Path.{◌≡◌, refl}
use mathlib.Core.Bool.{true, false≢true}
use mathlib.Core.List.{List, [], ◌∷◌}
use native.Mathlib.Omega.{arith}
use lib.ListN.{get_or}
use Rattle.definition.specs.11-Layout.{label_part, count}
use Rattle.definition.specs.17-Case.{case_of}
use Rattle.definition.specs.18-Admission.{Parted}
use Rattle.definition.specs.21-Rules.{Rule, Names, nothing, a_label, a_condition, a_row, an_obligation, a_term, Effect, keeps, adds, closes, rule, rules, rule_at}
use Rattle.definition.specs.22-Steps.{is_an_obligation, is_adding}
use Rattle.case_file.proofs.LentCaseLaws.{labels_few, obligations_few, rows_few}
use Rattle.rules.proofs.RuleNumbers.{EntryIn, entry_in, label_there}
use Rattle.step_shape.specs.RuleLines.{shape_of, rule_shape}
use Rattle.case_parts.specs.ShapedSteps.{CitedEntry}
use Rattle.steps.specs.CitedEntries.{ObligationThere, LabelThere, CitedThere, EntryThere}

-- What holds of every line of the rules' table holds of each rule.
abbrev OfAll : (Rule → Type 0) → List Rule → Type 0
OfAll P [] = Unit {0}
OfAll P (r ∷ rs) = P r × OfAll P rs

of_each_line : (P : Rule → Type 0) (l : List Rule) (d : Rule) (n : ℕ) → P d → OfAll P l → P (get_or l n d)
of_each_line P [] d n e h = e
of_each_line P (r ∷ rs) d zero e h = h.0
of_each_line P (r ∷ rs) d (suc n) e h = of_each_line P rs d n e h.1

-- A rule that adds or closes a label names it.
abbrev LabelNamed : Effect → Names → Type 0
LabelNamed keeps n = Unit {0}
LabelNamed adds n = n ≡ a_label
LabelNamed closes n = n ≡ a_label

label_named : (n : ℕ) → LabelNamed (rule_at n).effect (rule_at n).names
unfolding rule_at rules rule
label_named n = of_each_line (λ r. LabelNamed r.effect r.names) rules _ n tt (refl, (tt, (tt, (tt, (tt, (tt, (tt, (tt, (tt, (refl, (tt, (refl, (tt, (refl, (tt, (tt, tt))))))))))))))))

module _ (s : List ℕ) (h : Parted s) (a : ℕ) where
  -- the label that a step adds or closes
  label_in : {n : Names} (e : Effect) → LabelNamed e n → CitedEntry (case_of s) n a → LabelThere e a × (is_adding e ≡ true → a < count s label_part)
  unfolding is_adding
  label_in keeps is f = (tt, λ g. absurd (false≢true g))
  label_in adds is f = let l = label_there s a is f in (omega (arith, labels_few s h), λ g. l)
  label_in closes is f = (omega (arith, label_there s a is f, labels_few s h), λ g. absurd (false≢true g))

  -- the row or the obligation that it cites, in the tables and in the file
  other_in : (n : Names) → EntryIn s n a → CitedThere n a × ObligationThere s n a
  unfolding is_an_obligation
  other_in nothing l = (tt, λ g. absurd (false≢true g))
  other_in a_label l = (tt, λ g. absurd (false≢true g))
  other_in a_condition l = (tt, λ g. absurd (false≢true g))
  other_in a_row l = (omega (arith, rows_few s h), λ g. absurd (false≢true g))
  other_in an_obligation l = (omega (arith, obligations_few s h), λ g. l)
  other_in a_term l = (tt, λ g. absurd (false≢true g))

  pub cited_there : (n : Names) → CitedEntry (case_of s) n a → CitedThere n a
  cited_there n f = (other_in n (entry_in s a n f)).0

  pub entries_there : (n : ℕ) → CitedEntry (case_of s) (rule_at n).names a → EntryThere s (shape_of (rule_at n)) a
  unfolding shape_of rule_shape
  entries_there n f =
      let r = rule_at n in
      let l = label_in r.effect (label_named n) f in
      record { obligation = (other_in r.names (entry_in s a r.names f)).1; label = l.0; added = l.1 }

-- The same of equal rules and entries.
pub label_there_as : (e f : Effect) (a b : ℕ) → e ≡ f → a ≡ b → LabelThere f b → LabelThere e a
label_there_as e f a b p q h = rw (p, q) h

pub cited_there_as : (n m : Names) (a b : ℕ) → n ≡ m → a ≡ b → CitedThere m b → CitedThere n a
cited_there_as n m a b p q h = rw (p, q) h
