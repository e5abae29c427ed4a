-- Kinds and rules by their names: what a test of a number tells, the numbers of the rules, and the bytes of kinds. Assumes nothing.
use Prim.Native.Nat.{ℕ, ◌<◌}
use mathlib.Core.Path.{◌≡◌, refl, sym, ap, ◌∙◌}
use mathlib.Core.Bool.{Bool, true, false}
use mathlib.Core.List.{[], ◌∷◌}
use native.Mathlib.Omega.{arith}
use lib.ListN.{get_or}
use lib.Dec.{eqb}
use borrow.Author.Tests.{eqb-true, eqb-false}
use denote.Enum.Declared.{tag_of}
use Rattle.formula_rows.specs.Kinds.{kind_number}
use Rattle.formula_rows.specs.declared.kinds.Kind.{Kind}
use Rattle.formula_rows.specs.declared.kinds.Kind.TheVariants as kind
use Rattle.formula_rows.specs.contracts.kinds.Kind.{the_type}
use Rattle.case_parts.specs.Named.{rule_number}
use Rattle.case_parts.specs.declared.named.Rule.{Rule}
use Rattle.case_parts.specs.declared.named.Rule.TheVariants.{Suppose, ConditionRow, SeenRow, Say, Refine, Owner, AndIntro, AndLeft, AndRight, ImpliesIntro, ImpliesElim, DutyIntro, DutyByObligation, DutyByLabel, ForAllIntro, ForAllElim}

-- A test of a number, by what it answered.
module _ {q : Bool} {k n : ℕ} (test : q ≡ eqb k n) where
  pub named_so : q ≡ true → k ≡ n
  named_so e = eqb-true k n (sym test ∙ e)

  pub named_other : q ≡ false → k ≡ n → ⊥
  named_other e = eqb-false k n (sym test ∙ e)

-- The rules in the order of their numbers.
unfoldable of_number : ℕ → Rule
of_number n = get_or (Suppose ∷ ConditionRow ∷ SeenRow ∷ Say ∷ Refine ∷ Owner ∷ AndIntro ∷ AndLeft ∷ AndRight ∷ ImpliesIntro ∷ ImpliesElim ∷ DutyIntro ∷ DutyByObligation ∷ DutyByLabel ∷ ForAllIntro ∷ ForAllElim ∷ []) n Suppose

of_its_number : (r : Rule) → of_number (rule_number r) ≡ r
unfolding of_number
of_its_number Suppose = refl
of_its_number ConditionRow = refl
of_its_number SeenRow = refl
of_its_number Say = refl
of_its_number Refine = refl
of_its_number Owner = refl
of_its_number AndIntro = refl
of_its_number AndLeft = refl
of_its_number AndRight = refl
of_its_number ImpliesIntro = refl
of_its_number ImpliesElim = refl
of_its_number DutyIntro = refl
of_its_number DutyByObligation = refl
of_its_number DutyByLabel = refl
of_its_number ForAllIntro = refl
of_its_number ForAllElim = refl

-- Rules of equal numbers are equal.
pub one_rule : (r q : Rule) → rule_number r ≡ rule_number q → r ≡ q
one_rule r q e = sym (of_its_number r) ∙ ap of_number e ∙ of_its_number q

pub rule_few : (r : Rule) → rule_number r < 16
rule_few Suppose = omega arith
rule_few ConditionRow = omega arith
rule_few SeenRow = omega arith
rule_few Say = omega arith
rule_few Refine = omega arith
rule_few Owner = omega arith
rule_few AndIntro = omega arith
rule_few AndLeft = omega arith
rule_few AndRight = omega arith
rule_few ImpliesIntro = omega arith
rule_few ImpliesElim = omega arith
rule_few DutyIntro = omega arith
rule_few DutyByObligation = omega arith
rule_few DutyByLabel = omega arith
rule_few ForAllIntro = omega arith
rule_few ForAllElim = omega arith

-- The byte of a kind, as a cast gives it.
pub kind_byte : (k : Kind) → tag_of the_type k ≡ kind_number k
kind_byte kind.Predicate = refl
kind_byte kind.Owns = refl
kind_byte kind.Says = refl
kind_byte kind.And = refl
kind_byte kind.ForAll = refl
kind_byte kind.Implies = refl
kind_byte kind.EachUse = refl
kind_byte kind.Once = refl
kind_byte kind.Communicates = refl
kind_byte kind.Creates = refl
kind_byte kind.UserAction = refl
