-- `Term::is_free` meets its contract: one arm is a clause of the definition, and the other what is left. Assumes nothing.
use Rattle.definition.specs.12-Terms.{is_free}
use Rattle.formula_rows.specs.Meanings.{term_meant}
use Rattle.formula_rows.proofs.TermCases.{none_free}
use Rattle.formula_rows.proofs.terms.Term.is_free.Goals as goal

pub returns-in-Variable : goal.returns-in-Variable
unfolding is_free term_meant
returns-in-Variable c = rw c.in-Variable.is

pub returns-in_default : goal.returns-in_default
returns-in_default c = none_free _ _ c.in_default.not-Variable
