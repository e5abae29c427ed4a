-- What a number is as a term, range by range. Assumes nothing.
use Prim.Native.Nat.{ℕ, ◌≤◌, ◌<◌, ◌-◌}
use mathlib.Core.Path.{◌≡◌}
use native.Mathlib.Omega.{arith}
use borrow.Author.Tests.{lt-ltb, le-ltb, ne_eqb}
use Rattle.definition.specs.01-Words.{absent}
use Rattle.definition.specs.12-Terms.{class_of, object, parameter, variable, absent_term, no_term, agents, data_objects}

pub of_agent : (t : ℕ) → t < 16384 → class_of t ≡ object agents
unfolding class_of
of_agent t below = rw (lt-ltb t 16384 below)

pub of_data : (t : ℕ) → 16384 ≤ t → t < 32768 → class_of t ≡ object data_objects
unfolding class_of
of_data t from below = rw (le-ltb t 16384 from, lt-ltb t 32768 below)

pub of_agent_parameter : (t : ℕ) → 32768 ≤ t → t < 32800 → class_of t ≡ parameter agents
unfolding class_of
of_agent_parameter t from below = rw (le-ltb t 16384 (omega arith), le-ltb t 32768 from, lt-ltb t 32800 below)

pub of_data_parameter : (t : ℕ) → 32800 ≤ t → t < 32832 → class_of t ≡ parameter data_objects
unfolding class_of
of_data_parameter t from below =
    rw (le-ltb t 16384 (omega arith), le-ltb t 32768 (omega arith), le-ltb t 32800 from, lt-ltb t 32832 below)

pub of_gap : (t : ℕ) → 32832 ≤ t → t < 40960 → class_of t ≡ no_term
unfolding class_of
of_gap t from below =
    rw
    (le-ltb t 16384 (omega arith), le-ltb t 32768 (omega arith), le-ltb t 32800 (omega arith), le-ltb t 32832 from, lt-ltb t 40960 below)

pub of_agent_variable : (t : ℕ) → 40960 ≤ t → t < 40968 → class_of t ≡ variable agents (t - 40960)
unfolding class_of
of_agent_variable t from below =
    rw
    (le-ltb t 16384 (omega arith), le-ltb t 32768 (omega arith), le-ltb t 32800 (omega arith), le-ltb t 32832 (omega arith), le-ltb t 40960 from, lt-ltb t 40968 below)

pub of_data_variable : (t : ℕ) → 40968 ≤ t → t < 40976 → class_of t ≡ variable data_objects (t - 40968)
unfolding class_of
of_data_variable t from below =
    rw
    (le-ltb t 16384 (omega arith), le-ltb t 32768 (omega arith), le-ltb t 32800 (omega arith), le-ltb t 32832 (omega arith), le-ltb t 40960 (omega arith), le-ltb t 40968 from, lt-ltb t 40976 below)

pub of_absent : (t : ℕ) → t ≡ absent → class_of t ≡ absent_term
unfolding class_of
of_absent t is = rw is

pub of_rest : (t : ℕ) → 40976 ≤ t → (t ≡ absent → ⊥) → class_of t ≡ no_term
unfolding class_of
of_rest t from other =
    rw
    (le-ltb t 16384 (omega arith), le-ltb t 32768 (omega arith), le-ltb t 32800 (omega arith), le-ltb t 32832 (omega arith), le-ltb t 40960 (omega arith), le-ltb t 40968 (omega arith), le-ltb t 40976 from, ne_eqb t absent other)
