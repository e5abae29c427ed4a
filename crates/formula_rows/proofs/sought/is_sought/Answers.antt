-- `is_sought` meets its contract: each arm is one clause of the definition. Assumes nothing.
use borrow.Author.Rules.{rules}
use Rattle.definition.specs.13-Formulas.{is_sought}
use Rattle.formula_rows.specs.Meanings.{sought_meant}
use Rattle.formula_rows.proofs.sought.is_sought.Goals as goal

pub returns-in-Term : goal.returns-in-Term
unfolding is_sought sought_meant
returns-in-Term c = rw c.in-Term.is

pub returns-in-Parameter : goal.returns-in-Parameter
unfolding is_sought sought_meant
returns-in-Parameter c = rw c.in-Parameter.is c.is_any_parameter.ensures

pub returns-in-FreeVariable : goal.returns-in-FreeVariable
unfolding is_sought sought_meant
returns-in-FreeVariable c = rw c.in-FreeVariable.is (search rules)

pub returns-in-Bound : goal.returns-in-Bound
unfolding is_sought sought_meant
returns-in-Bound c = rw c.in-Bound.is (search rules)
