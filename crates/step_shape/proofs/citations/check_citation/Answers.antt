-- `check_citation` meets its contract: an arm for each thing that an argument names. Assumes nothing.
use mathlib.Core.Path.{◌∙◌}
use Rattle.definition.specs.17-Case.{case_of}
use Rattle.words.proofs.CheckRuns.{last_check}
use Rattle.words.specs.Meanings.{run_meant}
use Rattle.step_shape.specs.Meanings.{names_meant}
use Rattle.step_shape.proofs.CitationLaws.{label_checks, obligation_checks, term_checks, nothing_checks}
use Rattle.step_shape.proofs.citations.check_citation.Goals as goal

pub returns-in-Nothing : goal.returns-in-Nothing
unfolding run_meant names_meant
returns-in-Nothing c = rw c.in-Nothing.is (nothing_checks _ _ _)

pub returns-in-Label : goal.returns-in-Label
unfolding case_of names_meant
returns-in-Label c = rw c.in-Label.is (rw c.count_of.ensures.0 at c.check_entry.ensures ∙ label_checks (case_of _) _ _)

pub returns-in-Condition : goal.returns-in-Condition
unfolding names_meant
returns-in-Condition c = rw c.in-Condition.is c.check_condition.ensures

pub returns-in-Row : goal.returns-in-Row
unfolding names_meant
returns-in-Row c = rw c.in-Row.is c.check_row.ensures

pub returns-in-Obligation : goal.returns-in-Obligation
unfolding case_of names_meant
returns-in-Obligation c = rw c.in-Obligation.is (rw c.count_of-in-Obligation.ensures.0 at c.check_entry-in-Obligation.ensures ∙ obligation_checks (case_of _) _ _)

pub returns-in-Term : goal.returns-in-Term
unfolding names_meant
returns-in-Term c = rw c.in-Term.is (c.single.ensures ∙ last_check _ ∙ term_checks _ _ _)
