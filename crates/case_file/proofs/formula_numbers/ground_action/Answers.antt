-- `ground_action` meets its contract. Assumes nothing.
use Rattle.std.proofs.Common.{rules, ◌∙◌, leb}
use Rattle.definition.specs.13-Formulas.{is_ground}
use Rattle.definition.specs.14-Book.{tree_in, book}
use Rattle.definition.specs.15-Records.{is_ground_action}
use Rattle.case_file.proofs.NumberAnswers.{actions, row_good, number_told}
use Rattle.case_file.proofs.formula_numbers.ground_action.Goals as goal

pub names-requires-clause-rows : goal.names-requires-clause-rows
names-requires-clause-rows c = λ k below. let good = row_good _ k c.requires below in search rules

pub returns : goal.returns
unfolding is_ground_action
returns c = let s = c.args.book.now in
    c.names.ensures (λ n. leb 8 n) (λ k. is_ground (tree_in (book s) k)) (λ k b post. search rules) (λ k b below post. search rules)
    ∙ number_told s _ c.requires actions _
