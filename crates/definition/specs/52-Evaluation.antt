-- What an evaluation unfolds: a theorem that computes something of the definition says `unfolding evaluated`. Each file lists its own at its end.
use Rattle.std.specs.Prelude.{ℕ, List}
use Rattle.std.proofs.Math.Bool.{decide}
use Rattle.std.proofs.Math.Decide.{ℕ_discrete}
use Rattle.definition.specs.01-Words.{evaluated_words}
use Rattle.definition.specs.02-Ranges.{evaluated_ranges}
use Rattle.definition.specs.03-Lists.{evaluated_lists}
use Rattle.definition.specs.04-Checks.{evaluated_checks}
use Rattle.definition.specs.11-Layout.{evaluated_layout}
use Rattle.definition.specs.12-Terms.{evaluated_terms}
use Rattle.definition.specs.13-Formulas.{evaluated_formulas}
use Rattle.definition.specs.14-Book.{evaluated_book}
use Rattle.definition.specs.15-Records.{evaluated_records}
use Rattle.definition.specs.16-Views.{evaluated_views}
use Rattle.definition.specs.17-Case.{evaluated_case}
use Rattle.definition.specs.18-Admission.{evaluated_admission}
use Rattle.definition.specs.19-Rewriting.{evaluated_rewriting}
use Rattle.definition.specs.21-Rules.{evaluated_rules}
use Rattle.definition.specs.22-Steps.{evaluated_steps}
use Rattle.definition.specs.23-Duties.{evaluated_duties}
use Rattle.definition.specs.31-Outcome.{Outcome, outcome, evaluated_outcome}
use Rattle.definition.specs.32-Numbers.{evaluated_numbers}
use Rattle.definition.specs.35-Index.{evaluated_index}
use Rattle.definition.specs.36-Night.{evaluated_night}
use Rattle.definition.specs.51-Files.{evaluated_files}

unfoldable pub evaluated : List ℕ → List ℕ → Outcome
unfolding decide ℕ_discrete evaluated_words evaluated_ranges evaluated_lists evaluated_checks evaluated_layout evaluated_terms evaluated_formulas evaluated_book evaluated_records evaluated_views evaluated_case evaluated_admission evaluated_rewriting evaluated_rules evaluated_steps evaluated_duties evaluated_outcome evaluated_numbers evaluated_index evaluated_night evaluated_files
evaluated s room = outcome s room
