-- `names` meets its contract. Assumes nothing.
use Rattle.std.proofs.Common.{◌<◌, ◌≡◌, ◌&&◌, ltb, ap, ◌∙◌, arith, rules, of_calls}
use Rattle.std.proofs.lemmas.Bool.Decides.{nat_tests}
use Rattle.definition.specs.14-Book.{book_rows, row_at, Row}
use Rattle.formula_rows.specs.Meanings.{row_meant}
use Rattle.case_file.proofs.formula_numbers.names.Goals as goal
use Rattle.case_file.proofs.formula_numbers.names.Goals.{then-at-book, else-at-book, then-kind, else-kind}

pub test-requires : goal.test-requires
unfolding book_rows
test-requires g c = let lt : c.args.n < book_rows c.args.book.now = grind arith in
    let may = c.requires.rows c.args.n lt in search (rules, of_calls)

pub returns : goal.returns
unfolding book_rows row_meant
returns g c is also kinds tests =
    let first : c.if-at-book.value ≡ ltb c.args.n (book_rows c.args.book.now) && is (row_at c.args.book.now c.args.n).kind =
    elim c.if-at-book.branch [
      | then-at-book w ↦ let told = kinds _ _ w.kind.ensures ∙ ap (λ (r : Row). is r.kind) w.row_at.ensures in grind (arith, nat_tests)
      | else-at-book w ↦ grind (arith, nat_tests)
    ] in
    elim c.if-kind.branch [
      | then-kind w ↦ let lt : c.args.n < book_rows c.args.book.now = grind (arith, nat_tests) in
          let told = tests _ _ lt w.test.ensures in grind (arith, nat_tests)
      | else-kind w ↦ grind (arith, nat_tests)
    ]
