-- `size_at` meets its contract: a row is bad where its fields do not fit, or where it has more than 64 nodes by its children's sizes. Assumes nothing.
use native.Mathlib.Omega.{arith}
use mathlib.Core.Path.{◌≡◌, sym, ap, ◌∙◌}
use mathlib.Core.Bool.{true}
use Rattle.definition.specs.13-Formulas.{nodes}
use Rattle.definition.specs.14-Book.{row_at, book, book_rows, tree_in, fields_fit}
use Rattle.formula_rows.specs.Nodes.{node_of, nodes_of}
use Rattle.formula_book.proofs.SizeLaws.{kids_held, node_size, misfit_size, fit_size}
use Rattle.formula_book.proofs.admission.size_at.Goals as goal
use Rattle.formula_book.proofs.admission.size_at.Goals.{After-from}

-- The fields of the book's row fit.
fits : (c : After-from) → fields_fit (book c.args.book.now) c.args.k (row_at c.args.book.now c.args.k) ≡ true
fits c = ap (fields_fit (book c.args.book.now) c.args.k) (sym c.row_at-row.ensures) ∙ sym c.if-not-fields_fit.ensures

pub row_at-row-requires : goal.row_at-row-requires
unfolding book_rows
row_at-row-requires c = let p = c.requires.k_bound.0 in omega arith

pub returns-then-not-fields_fit : goal.returns-then-not-fields_fit
returns-then-not-fields_fit c =
    (misfit_size c.args.book.now c.args.k (ap (fields_fit (book c.args.book.now) c.args.k) (sym c.row_at-row.ensures) ∙ sym c.if-not-fields_fit.ensures), tt)

pub node_size-size-requires : goal.node_size-size-requires
node_size-size-requires c =
    rw (c.from.ensures, c.row_at-row.ensures) (kids_held c.args.book.now c.args.k c.args.sizes.now c.requires.sizes_held c.requires.k_bound.0 (fits c))

pub returns : goal.returns
returns c =
    let s = c.args.book.now in
    let fit = fits (goal.at.returns c).After-from in
    let is : c.node_size-size.result ≡ nodes (tree_in (book s) c.args.k) =
    c.node_size-size.ensures ∙ ap (nodes_of (book s)) (c.from.ensures ∙ ap node_of c.row_at-row.ensures) ∙ node_size s c.args.k c.args.sizes.now c.requires.sizes_held c.requires.k_bound.0 fit in
    rw (c.then_some.ensures, is) (fit_size s c.args.k fit)
