-- What callers of this library may cite, and they cite this file alone: what `admit`'s answer says of the rows, which sizes the column of `admit_into` holds, a row's fields from its tree and the tree from its fields, one number for a tree, what a row's kind says of its tree, and what each answer about a formula says of it. Assumes nothing.
use Prim.Native.Nat.{ℕ, ◌≤◌, ◌<◌}
use mathlib.Core.Path.{◌≡◌, ap}
use mathlib.Core.Bool.{false}
use mathlib.Core.List.{List, ◌∷◌}
use lib.ListN.{length}
use native.Mathlib.Omega.{arith}
use lib.Dec.{eqb, ltb, leb}
use borrow.Author.Tests.{eqb-true, eq-eqb}
use Rattle.definition.proofs.CheckLaws.{all_hold, by_number}
use Rattle.definition.specs.04-Checks.{single, AllHold}
use Rattle.definition.specs.11-Layout.{formula_part}
use Rattle.definition.proofs.SizeColumns.{few_rows, admitted_told}
use Rattle.definition.proofs.Tests.{one_answer}
use Rattle.definition.specs.13-Formulas.{same, is_policy, is_action, is_predicate}
use Rattle.definition.specs.14-Book.{Row, row_at, book_rows, tree_in, tree_of, book, bad_formula, same_row, repeats_lower, is_misshapen, book_checks, book_admission, size_column}
use Rattle.formula_book.specs.GoodRows.{GoodRow}
use Rattle.formula_book.specs.AdmittedBooks.{AdmittedBook}
use Rattle.formula_book.specs.Sizes.{SizesHeld}
use Rattle.definition.proofs.OneNumber.{Has, fields, one_number}
use Rattle.definition.proofs.Trees.{Shape, row_shape}
use Rattle.definition.proofs.TreeEquality.{same_is}
use Rattle.formula_rows.proofs.RowKinds.{shape_policy, shape_action, shape_predicate}
use Rattle.formula_book.proofs.RowComparison.{same_as_row}
pub use Rattle.formula_book.proofs.RowComparison.{Proper, other_kind, predicate_proper, owns_proper, says_proper, and_proper, implies_proper, each_use_proper, once_proper, owns_kind, says_kind, and_kind, for_all_kind, implies_kind, communicates_kind, creates_kind, user_action_kind, body_policy, put_policy}
pub use Rattle.formula_walks.proofs.WalkLaws.{bound_present, free_present, parameter_present, term_present}
pub use Rattle.formula_book.proofs.DataAnswerLaws.{is_stray, is_clear, stray_is, clear_is}
pub use Rattle.formula_book.proofs.WalkedRows.{policy_here, action_here, good_inside}
pub use Rattle.definition.proofs.Trees.{beyond, number_inside}
pub use Rattle.definition.proofs.SizeColumns.{tells_sizes, size_is_rows, sizes_fit}

-- The laws of an admitted book.
module _ (s : List ℕ) (is : AdmittedBook s) where
  passed : AllHold (single 2 formula_part (is_misshapen s) ∷ book_checks s)
  unfolding book_admission
  passed = all_hold (single 2 formula_part (is_misshapen s) ∷ book_checks s) is.passes

  pub admitted_few : book_rows s ≤ 1024
  admitted_few = few_rows s passed.0

  pub admitted_good : (k : ℕ) → k < book_rows s → bad_formula s (book s) k ≡ false
  unfolding book_checks
  admitted_good = (by_number 3 (book_checks s) passed.1).0

  pub admitted_once : (k : ℕ) → k < book_rows s → repeats_lower s k ≡ false
  unfolding book_checks
  admitted_once = (by_number 4 (book_checks s) passed.1).0

  pub admitted_row : (row : ℕ) → row < book_rows s → GoodRow s row
  admitted_row row below = record { good = λ j le. admitted_good j (omega arith); inside = below; few = omega (arith, admitted_few) }

  -- The column that `admit_into` leaves holds the size of each row, as `size_of` asks for it, whatever was lent.
  pub admitted_sizes : (lent : List ℕ) → length lent ≡ 1024 → SizesHeld s (size_column s lent) (book_rows s)
  admitted_sizes lent lent_is = (admitted_told s lent lent_is is.passes).held

  -- Equal trees have equal numbers.
  pub admitted_one_number : (j k : ℕ) → j < book_rows s → k < book_rows s → tree_in (book s) j ≡ tree_in (book s) k → j ≡ k
  admitted_one_number = one_number s admitted_good admitted_once

  -- A formula is another just if their numbers are equal, and the one of a row just if it has that row.
  pub number_same : (f g : ℕ) → f < book_rows s → g < book_rows s → same (tree_in (book s) f) (tree_in (book s) g) ≡ eqb f g
  number_same f g f_in g_in =
      one_answer (same (tree_in (book s) f) (tree_in (book s) g)) (same_is (tree_in (book s) f) (tree_in (book s) g))
      (λ e. ap (tree_in (book s)) (eqb-true f g e), λ e. eq-eqb f g (admitted_one_number f g f_in g_in e))

  pub row_same : (f : ℕ) (r : Row) → f < book_rows s → Proper (book s) (book_rows s) r → same (tree_in (book s) f) (tree_of (book s) r) ≡ same_row (row_at s f) r
  row_same f r f_in =
      same_as_row (row_shape s f (admitted_good f f_in) f_in) (λ i j i_low j_low. admitted_one_number i j (omega arith) j_low)

-- The laws of a row that may be asked about.
module _ (s : List ℕ) (row : ℕ) (g : GoodRow s row) where
  -- its kind, with its fields and its tree
  pub row_is : Shape (book s) row (row_at s row)
  row_is = row_shape s row (g.good row (omega arith)) g.inside

  -- the fields from the tree
  pub tree_row : Has (book s) row (row_at s row) (tree_in (book s) row)
  tree_row = fields row_is

-- What a row's tree is, from its kind.
module _ (s : List ℕ) (row : ℕ) (g : GoodRow s row) where
  pub row_policy : is_policy (tree_in (book s) row) ≡ ltb (row_at s row).kind 8
  row_policy = shape_policy (row_is s row g)

  pub row_action : is_action (tree_in (book s) row) ≡ leb 8 (row_at s row).kind
  row_action = shape_action (row_is s row g)

  pub row_predicate : is_predicate (tree_in (book s) row) ≡ eqb (row_at s row).kind 0
  row_predicate = shape_predicate (row_is s row g)
