-- What `==` answers of two sorts, and what is left where a term is no object, no parameter or no variable. By cases. Assumes nothing.
use Prim.Native.Nat.{ℕ}
use mathlib.Core.Path.{◌≡◌, refl}
use mathlib.Core.Bool.{false}
use denote.Enum.Bare.{sameb}
use Rattle.definition.specs.12-Terms as definition
use Rattle.definition.specs.12-Terms.{same_sort, is_object, is_parameter, is_variable, is_free, is_bound}
use Rattle.formula_rows.specs.Meanings.{sort_meant, term_meant}
use Rattle.formula_rows.specs.contracts.terms.Sort.{the_type}
use Rattle.formula_rows.specs.declared.terms.Sort.{Sort}
use Rattle.formula_rows.specs.declared.terms.Sort.TheVariants.{Agents, Data}
use Rattle.formula_rows.specs.declared.terms.Term.{Term}
use Rattle.formula_rows.specs.declared.terms.Term.TheVariants.{Object, Parameter, Variable, Absent, Other}

pub sorts_equal : (s t : Sort) → sameb the_type s t ≡ same_sort (sort_meant s) (sort_meant t)
unfolding same_sort sort_meant
sorts_equal Agents Agents = refl
sorts_equal Agents Data = refl
sorts_equal Data Agents = refl
sorts_equal Data Data = refl

pub no_object : (σ : definition.Sort) (t : Term) → ((s : Sort) → t ≡ Object s → ⊥) → false ≡ is_object σ (term_meant t)
unfolding is_object term_meant
no_object σ (Object s) n = absurd (n s refl)
no_object σ (Parameter s) n = refl
no_object σ (Variable s k) n = refl
no_object σ Absent n = refl
no_object σ Other n = refl

pub no_parameter : (σ : definition.Sort) (t : Term) → ((s : Sort) → t ≡ Parameter s → ⊥) → false ≡ is_parameter σ (term_meant t)
unfolding is_parameter term_meant
no_parameter σ (Object s) n = refl
no_parameter σ (Parameter s) n = absurd (n s refl)
no_parameter σ (Variable s k) n = refl
no_parameter σ Absent n = refl
no_parameter σ Other n = refl

pub no_variable : (σ : definition.Sort) (t : Term) → ((s : Sort) (n : ℕ) → t ≡ Variable s n → ⊥) → false ≡ is_variable σ (term_meant t)
unfolding is_variable term_meant
no_variable σ (Object s) h = refl
no_variable σ (Parameter s) h = refl
no_variable σ (Variable s n) h = absurd (h s n refl)
no_variable σ Absent h = refl
no_variable σ Other h = refl

pub none_free : (d : ℕ) (t : Term) → ((s : Sort) (n : ℕ) → t ≡ Variable s n → ⊥) → false ≡ is_free d (term_meant t)
unfolding is_free term_meant
none_free d (Object s) h = refl
none_free d (Parameter s) h = refl
none_free d (Variable s n) h = absurd (h s n refl)
none_free d Absent h = refl
none_free d Other h = refl

pub none_bound : (σ : definition.Sort) (d : ℕ) (t : Term) → ((s : Sort) (n : ℕ) → t ≡ Variable s n → ⊥) → false ≡ is_bound σ d (term_meant t)
unfolding is_bound term_meant
none_bound σ d (Object s) h = refl
none_bound σ d (Parameter s) h = refl
none_bound σ d (Variable s n) h = absurd (h s n refl)
none_bound σ d Absent h = refl
none_bound σ d Other h = refl
