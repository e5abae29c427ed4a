-- Formulas as trees, and what document 01 says of one.
use Rattle.std.specs.Prelude.{ℕ, ◌+◌, Bool, true, false, cond, not, ◌&&◌, ◌||◌, List, [], ◌∷◌, eqb, ltb}
use Rattle.std.proofs.Math.Bool.{decide}
use Rattle.std.proofs.Math.Decide.{ℕ_discrete}
use Rattle.definition.specs.01-Words.{absent}
use Rattle.definition.specs.12-Terms.{Sort, agents, data_objects, Sort-discrete, class_of, is_parameter, is_variable, is_free, is_bound, is_instance}

-- Marks of duties: "mark 1 (each use) or 2 (once)". Kind 6 is a duty of each use (the source's "!"), kind 7 one that is done once (its "?").
abbrev pub each_use : ℕ
each_use = 1

abbrev pub once : ℕ
once = 2

-- Policies and actions in one type. `after` has the mark: kinds 6 and 7 differ in nothing else. `no_formula` is the tree of a number that names none.
pub data Formula : Type 0 where
  predicate : (code x y z : ℕ) → Formula
  owns : (x y : ℕ) → Formula
  says : (x : ℕ) (y : Formula) (z : ℕ) → Formula
  and : (x y : Formula) → Formula
  for_all : (sort : Sort) (x : Formula) → Formula
  implies : (x y : Formula) → Formula
  after : (mark : ℕ) (x y : Formula) → Formula
  communicates : (x : ℕ) (y : Formula) (z : ℕ) → Formula
  creates : (x y : ℕ) → Formula
  user_action : (code x y z : ℕ) → Formula
  no_formula : Formula
  deriving Discrete as Formula-discrete

-- Are the two trees equal?
unfoldable pub same : Formula → Formula → Bool
same f g = decide (Formula-discrete ℕ_discrete Sort-discrete f g)

-- The number of the formula's kind: 6 and 7 are the duties of marks 1 and 2, and no formula of a book has another mark. 11 is no kind.
abbrev pub kind_of : Formula → ℕ
kind_of (predicate c x y z) = 0
kind_of (owns x y) = 1
kind_of (says x f z) = 2
kind_of (and f g) = 3
kind_of (for_all σ f) = 4
kind_of (implies f g) = 5
kind_of (after m a f) = m + 5
kind_of (communicates x f z) = 8
kind_of (creates x y) = 9
kind_of (user_action c x y z) = 10
kind_of no_formula = 11

unfoldable pub is_policy : Formula → Bool
is_policy (predicate c x y z) = true
is_policy (owns x y) = true
is_policy (says x f z) = true
is_policy (and f g) = true
is_policy (for_all σ f) = true
is_policy (implies f g) = true
is_policy (after m a f) = true
is_policy (communicates x f z) = false
is_policy (creates x y) = false
is_policy (user_action c x y z) = false
is_policy no_formula = false

unfoldable pub is_action : Formula → Bool
is_action (predicate c x y z) = false
is_action (owns x y) = false
is_action (says x f z) = false
is_action (and f g) = false
is_action (for_all σ f) = false
is_action (implies f g) = false
is_action (after m a f) = false
is_action (communicates x f z) = true
is_action (creates x y) = true
is_action (user_action c x y z) = true
is_action no_formula = false

unfoldable pub is_predicate : Formula → Bool
is_predicate (predicate c x y z) = true
is_predicate (owns x y) = false
is_predicate (says x f z) = false
is_predicate (and f g) = false
is_predicate (for_all σ f) = false
is_predicate (implies f g) = false
is_predicate (after m a f) = false
is_predicate (communicates x f z) = false
is_predicate (creates x y) = false
is_predicate (user_action c x y z) = false
is_predicate no_formula = false

-- "Written out as a tree a formula has at most 64 nodes (terms not counted)."
unfoldable pub nodes : Formula → ℕ
nodes (predicate c x y z) = 1
nodes (owns x y) = 1
nodes (says x f z) = nodes f + 1
nodes (and f g) = nodes f + nodes g + 1
nodes (for_all σ f) = nodes f + 1
nodes (implies f g) = nodes f + nodes g + 1
nodes (after m a f) = nodes a + nodes f + 1
nodes (communicates x f z) = nodes f + 1
nodes (creates x y) = 1
nodes (user_action c x y z) = 1
nodes no_formula = 1

-- What is looked for in a formula.
pub data Sought : Type 0 where
  this_term : ℕ → Sought
  any_parameter : Sought
  data_variable : Sought
  free_variable : Sought
  bound_variable : Sort → Sought

-- Is the term t, under d for-alls, what is looked for?
unfoldable pub is_sought : Sought → ℕ → ℕ → Bool
is_sought (this_term u) d t = eqb t u
is_sought any_parameter d t = is_parameter agents (class_of t) || is_parameter data_objects (class_of t)
is_sought data_variable d t = is_variable data_objects (class_of t)
is_sought free_variable d t = is_free d (class_of t)
is_sought (bound_variable σ) d t = is_bound σ d (class_of t)

-- Does it stand in the formula, which is itself under d for-alls? "Walks over a formula go back and forth: a policy holds an action, and a comm action holds a policy."
unfoldable pub has : Sought → ℕ → Formula → Bool
has w d (predicate c x y z) = is_sought w d x || is_sought w d y || is_sought w d z
has w d (owns x y) = is_sought w d x || is_sought w d y
has w d (says x f z) = is_sought w d x || is_sought w d z || has w d f
has w d (and f g) = has w d f || has w d g
has w d (for_all σ f) = has w (d + 1) f
has w d (implies f g) = has w d f || has w d g
has w d (after m a f) = has w d a || has w d f
has w d (communicates x f z) = is_sought w d x || is_sought w d z || has w d f
has w d (creates x y) = is_sought w d x || is_sought w d y
has w d (user_action c x y z) = is_sought w d x || is_sought w d y || is_sought w d z
has w d no_formula = false

-- "Closed: no free variable."
unfoldable pub closed : Formula → Bool
closed f = not (has free_variable 0 f)

-- "Ground: closed, no parameter."
unfoldable pub is_ground : Formula → Bool
is_ground f = closed f && not (has any_parameter 0 f)

-- The term t put in for the variable of a for-all over the sort, at a term x that stands under d more for-alls.
-- The for-alls of steps are closed, so no other variable reaches out of the body, and none changes its number.
unfoldable pub put_term : Sort → ℕ → ℕ → ℕ → ℕ
put_term σ t d x = cond (is_bound σ d (class_of x)) t x

-- The same in a whole formula: the body of a for-all, with d = 0.
unfoldable pub put : Sort → ℕ → ℕ → Formula → Formula
put σ t d (predicate c x y z) = predicate c (put_term σ t d x) (put_term σ t d y) (put_term σ t d z)
put σ t d (owns x y) = owns (put_term σ t d x) (put_term σ t d y)
put σ t d (says x f z) = says (put_term σ t d x) (put σ t d f) (put_term σ t d z)
put σ t d (and f g) = and (put σ t d f) (put σ t d g)
put σ t d (for_all τ f) = for_all τ (put σ t (d + 1) f)
put σ t d (implies f g) = implies (put σ t d f) (put σ t d g)
put σ t d (after m a f) = after m (put σ t d a) (put σ t d f)
put σ t d (communicates x f z) = communicates (put_term σ t d x) (put σ t d f) (put_term σ t d z)
put σ t d (creates x y) = creates (put_term σ t d x) (put_term σ t d y)
put σ t d (user_action c x y z) = user_action c (put_term σ t d x) (put_term σ t d y) (put_term σ t d z)
put σ t d no_formula = no_formula

-- An ascending list with t put in at its place, unless it is there.
unfoldable pub insert : ℕ → List ℕ → List ℕ
insert t [] = t ∷ []
insert t (u ∷ us) = cond (ltb t u) (t ∷ u ∷ us) (cond (eqb t u) (u ∷ us) (u ∷ insert t us))

-- The list with the term, where that is a data object or a data parameter.
unfoldable pub add_term : ℕ → List ℕ → List ℕ
add_term t ds = cond (is_instance data_objects (class_of t)) (insert t ds) ds

-- The list with the data objects and data parameters of the formula, "actions included".
unfoldable pub add_data : Formula → List ℕ → List ℕ
add_data (predicate c x y z) ds = add_term x (add_term y (add_term z ds))
add_data (owns x y) ds = add_term x (add_term y ds)
add_data (says x f z) ds = add_term x (add_term z (add_data f ds))
add_data (and f g) ds = add_data f (add_data g ds)
add_data (for_all σ f) ds = add_data f ds
add_data (implies f g) ds = add_data f (add_data g ds)
add_data (after m a f) ds = add_data a (add_data f ds)
add_data (communicates x f z) ds = add_term x (add_term z (add_data f ds))
add_data (creates x y) ds = add_term x (add_term y ds)
add_data (user_action c x y z) ds = add_term x (add_term y (add_term z ds))
add_data no_formula ds = ds

-- The data objects and data parameters in the formula, ascending, each once.
unfoldable pub data_of : Formula → List ℕ
data_of f = add_data f []

-- The parts of a formula, for rules that name them: its first and its second formula; the source X of what is said or communicated, or the owner X; the target Z; its sort.
-- Where it has no such part, any value serves.
unfoldable pub first_part : Formula → Formula
first_part (predicate c x y z) = no_formula
first_part (owns x y) = no_formula
first_part (says x f z) = f
first_part (and f g) = f
first_part (for_all σ f) = f
first_part (implies f g) = f
first_part (after m a f) = a
first_part (communicates x f z) = f
first_part (creates x y) = no_formula
first_part (user_action c x y z) = no_formula
first_part no_formula = no_formula

unfoldable pub second_part : Formula → Formula
second_part (predicate c x y z) = no_formula
second_part (owns x y) = no_formula
second_part (says x f z) = no_formula
second_part (and f g) = g
second_part (for_all σ f) = no_formula
second_part (implies f g) = g
second_part (after m a f) = f
second_part (communicates x f z) = no_formula
second_part (creates x y) = no_formula
second_part (user_action c x y z) = no_formula
second_part no_formula = no_formula

unfoldable pub source : Formula → ℕ
source (predicate c x y z) = absent
source (owns x y) = x
source (says x f z) = x
source (and f g) = absent
source (for_all σ f) = absent
source (implies f g) = absent
source (after m a f) = absent
source (communicates x f z) = x
source (creates x y) = absent
source (user_action c x y z) = absent
source no_formula = absent

unfoldable pub target : Formula → ℕ
target (predicate c x y z) = absent
target (owns x y) = absent
target (says x f z) = z
target (and f g) = absent
target (for_all σ f) = absent
target (implies f g) = absent
target (after m a f) = absent
target (communicates x f z) = z
target (creates x y) = absent
target (user_action c x y z) = absent
target no_formula = absent

unfoldable pub sort_of : Formula → Sort
sort_of (predicate c x y z) = agents
sort_of (owns x y) = agents
sort_of (says x f z) = agents
sort_of (and f g) = agents
sort_of (for_all σ f) = σ
sort_of (implies f g) = agents
sort_of (after m a f) = agents
sort_of (communicates x f z) = agents
sort_of (creates x y) = agents
sort_of (user_action c x y z) = agents
sort_of no_formula = agents

-- What an evaluation unfolds of this file.
unfoldable pub evaluated_formulas : Unit {0}
unfolding same is_policy is_action is_predicate nodes is_sought has closed is_ground put_term put insert add_term add_data data_of first_part second_part source target sort_of
evaluated_formulas = tt
