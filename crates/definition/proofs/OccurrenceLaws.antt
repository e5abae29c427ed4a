-- The tests of a term's class and the walk `has` say what the definition says without tests: what stands in a formula. Assumes nothing.
use Prim.Native.Nat.{ℕ, ◌+◌, ◌-◌, ◌≤◌}
use mathlib.Core.Path.{◌≡◌, refl, ap}
use mathlib.Core.Bool.{Bool, true, false, cond, false≢true}
use mathlib.Core.Logic.{◌↔◌, ⊎_map}
use native.Mathlib.Omega.{arith}
use lib.Dec.{eqb, ltb}
use borrow.Author.Tests.{leb-true, le-leb}
use Rattle.definition.specs.01-Words.{absent}
use Rattle.definition.proofs.Tests.{equals_is, or_is, or_is₃, not_is, refutes}
use Rattle.definition.specs.12-Terms.{agents_end, Sort, agents, data_objects, same_sort, Class, object, parameter, variable, absent_term, no_term, class_of, is_object, is_parameter, is_variable, is_free, is_instance}
use Rattle.definition.specs.13-Formulas.{Formula, predicate, owns, says, and, for_all, implies, after, communicates, creates, user_action, no_formula, Sought, this_term, data_variable, free_variable, is_sought, has, closed, is_policy}
use Rattle.definition.specs.41-Occurrences.{Somewhere, Mentions, FreeVariable, Closed, DataVariable, MentionsDataVariable, Instance, Policy}

-- The classes.

pub sort_is : (σ τ : Sort) → (same_sort σ τ ≡ true) ↔ (τ ≡ σ)
unfolding same_sort
sort_is agents agents = (λ e. refl, λ e. refl)
sort_is agents data_objects = (λ e. cc, λ e. cc)
sort_is data_objects agents = (λ e. cc, λ e. cc)
sort_is data_objects data_objects = (λ e. refl, λ e. refl)

pub object_class : (σ : Sort) (c : Class) → (is_object σ c ≡ true) ↔ (c ≡ object σ)
unfolding is_object
object_class σ (object τ) = (λ e. ap object ((sort_is σ τ).0 e), λ e. (sort_is σ τ).1 cc)
object_class σ (parameter τ) = (λ e. cc, λ e. cc)
object_class σ (variable τ n) = (λ e. cc, λ e. cc)
object_class σ absent_term = (λ e. cc, λ e. cc)
object_class σ no_term = (λ e. cc, λ e. cc)

-- The agents are the numbers below that.
pub agent_is : (t : ℕ) → is_object agents (class_of t) ≡ ltb t agents_end
unfolding class_of is_object same_sort
agent_is t = go (ltb t agents_end) (ltb t 32768) (ltb t 32800) (ltb t 32832) (ltb t 40960) (ltb t 40968) (ltb t 40976) (eqb t absent)
  where
    go :
        (a b c d e f g h : Bool) →
        is_object agents (cond a (object agents) (cond b (object data_objects) (cond c (parameter agents) (cond d (parameter data_objects) (cond e no_term (cond f (variable agents (t - 40960)) (cond g (variable data_objects (t - 40968)) (cond h absent_term no_term)))))))) ≡ a
    go true b c d e f g h = refl
    go false true c d e f g h = refl
    go false false true d e f g h = refl
    go false false false true e f g h = refl
    go false false false false true f g h = refl
    go false false false false false true g h = refl
    go false false false false false false true h = refl
    go false false false false false false false true = refl
    go false false false false false false false false = refl

pub parameter_class : (σ : Sort) (c : Class) → (is_parameter σ c ≡ true) ↔ (c ≡ parameter σ)
unfolding is_parameter
parameter_class σ (object τ) = (λ e. cc, λ e. cc)
parameter_class σ (parameter τ) = (λ e. ap parameter ((sort_is σ τ).0 e), λ e. (sort_is σ τ).1 cc)
parameter_class σ (variable τ n) = (λ e. cc, λ e. cc)
parameter_class σ absent_term = (λ e. cc, λ e. cc)
parameter_class σ no_term = (λ e. cc, λ e. cc)

pub variable_class : (σ : Sort) (c : Class) → (is_variable σ c ≡ true) ↔ ((n : ℕ) × (c ≡ variable σ n))
unfolding is_variable
variable_class σ (object τ) = (λ e. (0, cc), λ e. cc)
variable_class σ (parameter τ) = (λ e. (0, cc), λ e. cc)
variable_class σ (variable τ n) = (λ e. (n, ap (λ (s : Sort). variable s n) ((sort_is σ τ).0 e)), λ e. (sort_is σ τ).1 cc)
variable_class σ absent_term = (λ e. (0, cc), λ e. cc)
variable_class σ no_term = (λ e. (0, cc), λ e. cc)

pub free_class : (d : ℕ) (c : Class) → (is_free d c ≡ true) ↔ ((σ : Sort) × (n : ℕ) × (c ≡ variable σ n) × (d ≤ n))
unfolding is_free
free_class d (object τ) = (λ e. absurd (false≢true e), λ e. cc)
free_class d (parameter τ) = (λ e. absurd (false≢true e), λ e. cc)
free_class d (variable τ n) = (λ e. (τ, n, refl, leb-true d n e), λ e. let q : e.1 ≡ n = cc in le-leb d n (omega arith))
free_class d absent_term = (λ e. absurd (false≢true e), λ e. cc)
free_class d no_term = (λ e. absurd (false≢true e), λ e. cc)

pub parameter_is : (σ : Sort) (t : ℕ) → (is_parameter σ (class_of t) ≡ true) ↔ (class_of t ≡ parameter σ)
parameter_is σ t = parameter_class σ (class_of t)

pub instance_is : (σ : Sort) (t : ℕ) → (is_instance σ (class_of t) ≡ true) ↔ Instance σ t
unfolding is_instance
instance_is σ t = or_is (object_class σ (class_of t)) (parameter_class σ (class_of t))

-- The walk.

pub somewhere_map :
    {P Q : ℕ → ℕ → Type 0} → ((d t : ℕ) → P d t → Q d t) → (d : ℕ) (f : Formula) → Somewhere P d f → Somewhere Q d f
unfolding ⊎_map
somewhere_map h d (predicate c x y z) = ⊎_map (h d x) (⊎_map (h d y) (h d z))
somewhere_map h d (owns x y) = ⊎_map (h d x) (h d y)
somewhere_map h d (says x f z) = ⊎_map (h d x) (⊎_map (h d z) (somewhere_map h d f))
somewhere_map h d (and f g) = ⊎_map (somewhere_map h d f) (somewhere_map h d g)
somewhere_map h d (for_all σ f) = somewhere_map h (d + 1) f
somewhere_map h d (implies f g) = ⊎_map (somewhere_map h d f) (somewhere_map h d g)
somewhere_map h d (after m a f) = ⊎_map (somewhere_map h d a) (somewhere_map h d f)
somewhere_map h d (communicates x f z) = ⊎_map (h d x) (⊎_map (h d z) (somewhere_map h d f))
somewhere_map h d (creates x y) = ⊎_map (h d x) (h d y)
somewhere_map h d (user_action c x y z) = ⊎_map (h d x) (⊎_map (h d y) (h d z))
somewhere_map h d no_formula = λ x. x

-- Where the test for what is sought says whether P holds of a term, the walk says whether it holds somewhere.
module _ (w : Sought) (P : ℕ → ℕ → Type 0) (is : (d t : ℕ) → (is_sought w d t ≡ true) ↔ P d t) where
  pub has_is : (d : ℕ) (f : Formula) → (has w d f ≡ true) ↔ Somewhere P d f
  unfolding has
  has_is d (predicate c x y z) = or_is₃ (is d x) (is d y) (is d z)
  has_is d (owns x y) = or_is (is d x) (is d y)
  has_is d (says x f z) = or_is₃ (is d x) (is d z) (has_is d f)
  has_is d (and f g) = or_is (has_is d f) (has_is d g)
  has_is d (for_all σ f) = has_is (d + 1) f
  has_is d (implies f g) = or_is (has_is d f) (has_is d g)
  has_is d (after m a f) = or_is (has_is d a) (has_is d f)
  has_is d (communicates x f z) = or_is₃ (is d x) (is d z) (has_is d f)
  has_is d (creates x y) = or_is (is d x) (is d y)
  has_is d (user_action c x y z) = or_is₃ (is d x) (is d y) (is d z)
  has_is d no_formula = (false≢true, λ x. absurd x)

pub mentions_is : (t : ℕ) (f : Formula) → (has (this_term t) 0 f ≡ true) ↔ Mentions t f
unfolding is_sought
mentions_is t = has_is (this_term t) (λ d u. u ≡ t) (λ d u. equals_is u t) 0

pub mentions_not : (t : ℕ) (f : Formula) → (has (this_term t) 0 f ≡ false) ↔ (Mentions t f → ⊥)
mentions_not t f = refutes (mentions_is t f)

pub closed_is : (f : Formula) → (closed f ≡ true) ↔ Closed f
unfolding closed is_sought
closed_is f = not_is (has_is free_variable FreeVariable (λ d t. free_class d (class_of t)) 0 f)

pub data_variable_is : (f : Formula) → (has data_variable 0 f ≡ false) ↔ (MentionsDataVariable f → ⊥)
unfolding is_sought
data_variable_is f =
    refutes
    (has_is data_variable (λ d t. DataVariable t) (λ d t. variable_class data_objects (class_of t)) 0 f)

pub policy_is : (f : Formula) → (is_policy f ≡ true) ↔ Policy f
unfolding is_policy
policy_is (predicate c x y z) = (λ e. tt, λ t. refl)
policy_is (owns x y) = (λ e. tt, λ t. refl)
policy_is (says x f z) = (λ e. tt, λ t. refl)
policy_is (and f g) = (λ e. tt, λ t. refl)
policy_is (for_all σ f) = (λ e. tt, λ t. refl)
policy_is (implies f g) = (λ e. tt, λ t. refl)
policy_is (after m a f) = (λ e. tt, λ t. refl)
policy_is (communicates x f z) = (false≢true, λ t. absurd t)
policy_is (creates x y) = (false≢true, λ t. absurd t)
policy_is (user_action c x y z) = (false≢true, λ t. absurd t)
policy_is no_formula = (false≢true, λ t. absurd t)
