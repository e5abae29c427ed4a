-- What the code's types stand for: each case as the definition's.
use Rattle.std.specs.Prelude.{List}
use Rattle.definition.specs.13-Formulas.{Formula}
use Rattle.definition.specs.14-Book.{tree_in}
use Rattle.definition.specs.16-Views.{RowView, hidden, struck, shows}
use Rattle.case_file.specs.declared.log_checks.View.{View}
use Rattle.case_file.specs.declared.log_checks.View.TheVariants as view

-- What a view shows is the formula of its number. l are the trees of the file's formulas.
unfoldable pub view_meant : List Formula → View → RowView
view_meant l view.Hidden = hidden
view_meant l view.Struck = struck
view_meant l (view.Shows n) = shows (tree_in l n)
