-- `Term::is_bound` meets its contract: one arm is a clause of the definition, and the other what is left. Assumes nothing.
use mathlib.Core.Path.{sym, ◌∙◌}
use Rattle.definition.specs.12-Terms.{is_bound}
use Rattle.formula_rows.specs.Meanings.{term_meant}
use Rattle.formula_rows.proofs.TermCases.{sorts_equal, none_bound}
use Rattle.formula_rows.proofs.terms.Term.is_bound.Goals as goal

pub returns-then-eq : goal.returns-then-eq
unfolding is_bound term_meant
returns-then-eq c = rw (c.in-Variable.is, sym (c.eq.ensures ∙ sorts_equal _ _) ∙ c.if-eq.true)

pub returns-else-eq : goal.returns-else-eq
unfolding is_bound term_meant
returns-else-eq c = rw (c.in-Variable.is, sym (c.eq.ensures ∙ sorts_equal _ _) ∙ c.if-eq.false) c.if-eq.false

pub returns-in_default : goal.returns-in_default
returns-in_default c = none_bound _ _ _ c.in_default.not-Variable
