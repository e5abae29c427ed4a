-- Terms: the numbers that stand for agents, data, parameters and variables.
use Rattle.std.specs.Prelude.{ℕ, ◌-◌, Bool, true, false, cond, ◌||◌, eqb, ltb, leb}
use Rattle.definition.specs.01-Words.{absent}

-- What a term stands for. "Data" is document 01's word for the objects that agents own.
pub data Sort : Type 0 where
  agents data_objects : Sort
  deriving Discrete as Sort-discrete

unfoldable pub other : Sort → Sort
other agents = data_objects
other data_objects = agents

unfoldable pub same_sort : Sort → Sort → Bool
same_sort agents agents = true
same_sort agents data_objects = false
same_sort data_objects agents = false
same_sort data_objects data_objects = true

-- What a number is as a term. A variable has its number: "the binders between it and its own, 0 for the innermost".
pub data Class : Type 0 where
  object : Sort → Class
  parameter : Sort → Class
  variable : Sort → ℕ → Class
  absent_term : Class
  no_term : Class

-- One more than the highest agent.
abbrev pub agents_end : ℕ
agents_end = 16384

-- "0 to 16,383 agents; 16,384 to 32,767 data; 32,768 to 32,799 agent parameters; 32,800 to 32,831 data parameters;
-- 40,960 to 40,967 agent variables 0 to 7; 40,968 to 40,975 data variables 0 to 7; others are no terms."
unfoldable pub class_of : ℕ → Class
class_of t =
    cond (ltb t agents_end) (object agents)
    (cond (ltb t 32768) (object data_objects)
    (cond (ltb t 32800) (parameter agents)
    (cond (ltb t 32832) (parameter data_objects)
    (cond (ltb t 40960) no_term
    (cond (ltb t 40968) (variable agents (t - 40960))
    (cond (ltb t 40976) (variable data_objects (t - 40968))
    (cond (eqb t absent) absent_term no_term)))))))

-- An object of the sort: an agent, or a data object.
unfoldable pub is_object : Sort → Class → Bool
is_object σ (object τ) = same_sort σ τ
is_object σ (parameter τ) = false
is_object σ (variable τ n) = false
is_object σ absent_term = false
is_object σ no_term = false

unfoldable pub is_parameter : Sort → Class → Bool
is_parameter σ (object τ) = false
is_parameter σ (parameter τ) = same_sort σ τ
is_parameter σ (variable τ n) = false
is_parameter σ absent_term = false
is_parameter σ no_term = false

unfoldable pub is_variable : Sort → Class → Bool
is_variable σ (object τ) = false
is_variable σ (parameter τ) = false
is_variable σ (variable τ n) = same_sort σ τ
is_variable σ absent_term = false
is_variable σ no_term = false

-- The variable, of either sort, whose own binder is not among the d nearest.
unfoldable pub is_free : ℕ → Class → Bool
is_free d (object τ) = false
is_free d (parameter τ) = false
is_free d (variable τ n) = leb d n
is_free d absent_term = false
is_free d no_term = false

-- The variable of the sort with just d binders between it and its own.
unfoldable pub is_bound : Sort → ℕ → Class → Bool
is_bound σ d (object τ) = false
is_bound σ d (parameter τ) = false
is_bound σ d (variable τ n) = cond (same_sort σ τ) (eqb n d) false
is_bound σ d absent_term = false
is_bound σ d no_term = false

-- What may be put in for a variable of the sort: an object or a parameter.
unfoldable pub is_instance : Sort → Class → Bool
is_instance σ c = is_object σ c || is_parameter σ c

-- "Agent and data places take that sort."
unfoldable pub has_sort : Sort → Class → Bool
has_sort σ c = is_instance σ c || is_variable σ c

unfoldable pub is_term : Class → Bool
is_term c = has_sort agents c || has_sort data_objects c

-- What an evaluation unfolds of this file.
unfoldable pub evaluated_terms : Unit {0}
unfolding other same_sort class_of is_object is_parameter is_variable is_free is_bound is_instance has_sort is_term
evaluated_terms = tt
