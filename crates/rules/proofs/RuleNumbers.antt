-- The rules by their numbers: how many premises each has, what its argument names, and what it asks. Assumes nothing.
use Prim.Native.Nat.{ℕ, ◌<◌}
use mathlib.Core.Path.{◌≡◌, refl}
use mathlib.Core.List.{List, [], ◌∷◌}
use native.Mathlib.Omega.{arith}
use lib.ListN.{get_or, get_or-eq_default}
use borrow.Author.Tests.{eq-eqb}
use Rattle.definition.specs.01-Words.{absent}
use Rattle.definition.proofs.RangeLaws.{each_at}
use Rattle.definition.proofs.RuleLaws.{inside}
use Rattle.definition.proofs.Tests.{not_both}
use Rattle.definition.specs.11-Layout.{condition_part, obligation_part, label_part, count}
use Rattle.definition.specs.15-Records.{log_of, rows_in}
use Rattle.definition.specs.17-Case.{case_of}
use Rattle.definition.specs.21-Rules.{Names, nothing, a_label, a_condition, a_row, an_obligation, a_term, no_instance, Asked, anything, an_implies, agent_says, in_turn, rule, rules, rule_at}
use Rattle.definition.specs.22-Steps.{cites_absent, cites_nothing}
use Rattle.case_parts.specs.ShapedSteps.{CitedEntry}

-- What a step cites is there, by what its argument names.
abbrev pub EntryIn : List ℕ → Names → ℕ → Type 0
EntryIn s nothing a = Unit {0}
EntryIn s a_label a = a < count s label_part
EntryIn s a_condition a = a < count s condition_part
EntryIn s a_row a = a < rows_in (log_of s)
EntryIn s an_obligation a = a < count s obligation_part
EntryIn s a_term a = a ≡ absent → ⊥

module _ (s : List ℕ) (a : ℕ) where
  pub entry_in : (n : Names) → CitedEntry (case_of s) n a → EntryIn s n a
  unfolding cites_absent cites_nothing case_of
  entry_in nothing e = tt
  entry_in a_label e = inside a (count s label_part) e.there
  entry_in a_condition e = inside a (count s condition_part) e.there
  entry_in a_row e = inside a (rows_in (log_of s)) e.there
  entry_in an_obligation e = inside a (count s obligation_part) e.there
  entry_in a_term e = λ q. not_both (eq-eqb a absent q) e.present

  -- The same where what it names is known.
  there : {n m : Names} → n ≡ m → CitedEntry (case_of s) n a → EntryIn s m a
  there {n} is e = rw is at (entry_in n e)

  pub label_there : {n : Names} → n ≡ a_label → CitedEntry (case_of s) n a → a < count s label_part
  label_there is e = there is e

  pub term_there : {n : Names} → n ≡ a_term → CitedEntry (case_of s) n a → a ≡ absent → ⊥
  term_there is e = there is e

-- What the argument names.
pub names_term : {r : ℕ} → r ≡ 14 → (rule_at r).names ≡ a_term
unfolding rule rules rule_at
names_term e = rw e

-- The rules behind the first three have premises.
pub some_premise : (r : ℕ) → 2 < r → r < 16 → 0 < (rule_at r).least
unfolding rule rules rule_at
some_premise r above lt =
    each_at (λ r. 0 < (rule_at r).least) 13 3
    (omega arith, (omega arith, (omega arith, (omega arith, (omega arith, (omega arith, (omega arith, (omega arith, (omega arith, (omega arith, (omega arith, (omega arith, (omega arith, tt)))))))))))))
    r (omega arith) (omega arith)

-- Only rules 14 and 15 have an instance.
pub no_instance_lem : (r : ℕ) → r < 16 → (r ≡ 14 → ⊥) → (r ≡ 15 → ⊥) → (rule_at r).other_instance ≡ no_instance
unfolding rule rules rule_at
no_instance_lem r lt =
    each_at (λ r. (r ≡ 14 → ⊥) → (r ≡ 15 → ⊥) → (rule_at r).other_instance ≡ no_instance) 16 0
    (λ a b. refl, (λ a b. refl, (λ a b. refl, (λ a b. refl, (λ a b. refl, (λ a b. refl, (λ a b. refl, (λ a b. refl, (λ a b. refl, (λ a b. refl, (λ a b. refl, (λ a b. refl, (λ a b. refl, (λ a b. refl, (λ a b. absurd (a refl), (λ a b. absurd (b refl), tt))))))))))))))))
    r (omega arith) (omega arith)

-- What is asked of the first premise and of the others, where the rule is none of those that ask.
abbrev pub NoneOf : ℕ → List ℕ → Type 0
NoneOf r [] = Unit {0}
NoneOf r (n ∷ ns) = (r ≡ n → ⊥) × NoneOf r ns

abbrev pub asking_first : List ℕ
asking_first = 3 ∷ 4 ∷ 5 ∷ 7 ∷ 8 ∷ 10 ∷ 12 ∷ 13 ∷ 15 ∷ []

pub nothing_first : (r : ℕ) → r < 16 → NoneOf r asking_first → (rule_at r).asks 0 ≡ anything
unfolding rule rules rule_at in_turn
nothing_first r lt =
    each_at (λ r. NoneOf r asking_first → (rule_at r).asks 0 ≡ anything) 16 0
    (λ h. refl, (λ h. refl, (λ h. refl, (λ h. absurd (h.0 refl), (λ h. absurd (h.1.0 refl), (λ h. absurd (h.1.1.0 refl), (λ h. refl, (λ h. absurd (h.1.1.1.0 refl), (λ h. absurd (h.1.1.1.1.0 refl), (λ h. refl, (λ h. absurd (h.1.1.1.1.1.0 refl), (λ h. refl, (λ h. absurd (h.1.1.1.1.1.1.0 refl), (λ h. absurd (h.1.1.1.1.1.1.1.0 refl), (λ h. refl, (λ h. absurd (h.1.1.1.1.1.1.1.1.0 refl), tt))))))))))))))))
    r (omega arith) (omega arith)

-- A further premise.
pub nothing_further : (r : ℕ) → r < 16 → (r ≡ 4 → ⊥) → (r ≡ 5 → ⊥) → (i : ℕ) → 0 < i → (rule_at r).asks i ≡ anything
unfolding rule rules rule_at in_turn
nothing_further r lt =
    each_at (λ r. (r ≡ 4 → ⊥) → (r ≡ 5 → ⊥) → (i : ℕ) → 0 < i → (rule_at r).asks i ≡ anything) 16 0
    (λ a b. none, (λ a b. none, (λ a b. none, (λ a b. one _, (λ a b. absurd (a refl), (λ a b. absurd (b refl), (λ a b. none, (λ a b. one _, (λ a b. one _, (λ a b. none, (λ a b. one _, (λ a b. none, (λ a b. one _, (λ a b. one _, (λ a b. none, (λ a b. one _, tt))))))))))))))))
    r (omega arith) (omega arith)
  where
    none : (i : ℕ) → 0 < i → get_or [] i anything ≡ anything
    none i lt = refl

    one : (q : Asked) (i : ℕ) → 0 < i → get_or (q ∷ []) i anything ≡ anything
    one q i lt = get_or-eq_default (q ∷ []) anything lt

pub behind_refine : (i : ℕ) → 1 < i → (rule_at 4).asks i ≡ anything
unfolding rule rules rule_at in_turn
behind_refine i lt = get_or-eq_default (an_implies ∷ agent_says ∷ []) anything lt
