-- `closed_policy` meets its contract. Assumes nothing.
use Rattle.std.proofs.Common.{rules, ◌∙◌, ltb}
use Rattle.definition.specs.13-Formulas.{closed}
use Rattle.definition.specs.14-Book.{tree_in, book}
use Rattle.case_file.proofs.NumberAnswers.{policies, row_good, number_told}
use Rattle.case_file.proofs.formula_numbers.closed_policy.Goals as goal

pub names-requires-clause-rows : goal.names-requires-clause-rows
names-requires-clause-rows c = λ k below. let good = row_good _ k c.requires below in search rules

pub returns : goal.returns
returns c = let s = c.args.book.now in
    c.names.ensures (λ n. ltb n 8) (λ k. closed (tree_in (book s) k)) (λ k b post. search rules) (λ k b below post. search rules)
    ∙ number_told s _ c.requires policies _
