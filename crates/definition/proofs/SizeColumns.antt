-- Request 4: which sizes the column holds after a book's checks, and that no other column does; a size is the number of rows of the tree, from 1 to 64; no log row shows in it. Assumes nothing.
use Prim.Native.Nat.{ℕ, zero, suc, ◌+◌, ◌-◌, ◌%◌, ◌≤◌, ◌<◌}
use mathlib.Core.Path.{◌≡◌, refl, sym, ap, ◌∙◌}
use mathlib.Core.Bool.{true, false, not}
use mathlib.Core.Logic.{inl, inr, ⊎_elim}
use mathlib.Core.List.{List, [], ◌∷◌, ◌++◌, map}
use native.Mathlib.Omega.{arith}
use lib.ListN.{length, get_or, drop, length-append, length-drop, get_or-append}
use lib.Seq.{get_or-append-add, get_or-drop, ext_get_or}
use lib.Dec.{eqb, ltb}
use borrow.Author.Tests.{ltb-false}
use Rattle.definition.proofs.CheckLaws.{all_hold, first_fault}
use Rattle.definition.proofs.RangeLaws.{lowest_bound, lowest_is, lowest_none, listed_length, listed_at}
use Rattle.definition.proofs.StrayLaws.{shaped, child_lower, child_good}
use Rattle.definition.proofs.StruckFile.{struck_or_parted, alike_struck}
use Rattle.definition.proofs.Tests.{or_false, below_or_not}
use Rattle.definition.proofs.Trees.{Shape, predicate_row, owns_row, says_row, and_row, for_all_row, implies_row, each_use_row, once_row, communicates_row, creates_row, user_action_row, row_small}
use Rattle.definition.specs.02-Ranges.{lowest, listed}
use Rattle.definition.specs.03-Lists.{Among, Kept, join_all}
use Rattle.definition.specs.04-Checks.{single, Checked, accepts, refuses, Lowest, FirstFault, here, later}
use Rattle.definition.specs.11-Layout.{formula_part, row_bytes, most_records}
use Rattle.definition.specs.13-Formulas.{Formula, nodes}
use Rattle.definition.specs.14-Book.{Row, row_at, book_rows, tree_in, book, bad_formula, is_misshapen, book_checks, book_admission, sized_rows, size_column, children_of, rows_within, rows_of}
use Rattle.definition.specs.41-Occurrences.{GoodRow}
use Rattle.definition.specs.46-Requests.{SizesTold, ColumnAfter, admitted, misshapen, bad_row, repeated, TellsSizes, SizeIsRows, SizesFit, column_of, SizesShowNoRow}

-- A list by numbers laid over the front of another.
module _ (f : ℕ → ℕ) (n : ℕ) (l : List ℕ) where
  front : (k : ℕ) → k < n → get_or (listed f n 0 ++ drop n l) k 0 ≡ f k
  front k lt =
      let at : 0 + k ≡ k = omega arith in
      get_or-append (listed f n 0) (drop n l) 0 k (rw (listed_length f n 0) lt) ∙ rw at at (listed_at f 0 n 0 k lt)

  rest : Kept n l (listed f n 0 ++ drop n l)
  rest k le =
      let at : k ≡ length (listed f n 0) + (k - n) = omega (arith, listed_length f n 0) in
      let back : n + (k - n) ≡ k = omega arith in
      ap (λ (i : ℕ). get_or (listed f n 0 ++ drop n l) i 0) at ∙ get_or-append-add (listed f n 0) (drop n l) (k - n) 0 ∙ get_or-drop n l (k - n) 0 ∙ ap (λ (i : ℕ). get_or l i 0) back

  long : n ≤ length l → length (listed f n 0 ++ drop n l) ≡ length l
  long le = simp (length-append, length-drop, listed_length) (omega arith)

-- Two columns that tell the sizes of the same rows are one, and so are two after the same answer.
told_one : {s lent a b : List ℕ} {n : ℕ} → SizesTold s lent a n → SizesTold s lent b n → a ≡ b
told_one {a = a} {b = b} {n = n} t u =
    ext_get_or 0 a b (t.as_long ∙ sym u.as_long)
    (λ k lt. ⊎_elim (λ l. (t.held k l).size ∙ sym (u.held k l).size) (λ g. t.others k g ∙ sym (u.others k g)) (below_or_not k n))

after_one : {s lent a b : List ℕ} {r : Checked (Unit {0})} → ColumnAfter s lent a r → ColumnAfter s lent b r → a ≡ b
after_one (admitted t) (admitted u) = told_one t u
after_one (misshapen t) (misshapen u) = t ∙ sym u
after_one (bad_row t) (bad_row u) = told_one t u
after_one (repeated t) (repeated u) = told_one t u

-- Of misshapen bytes the column tells nothing; of others, the rows before the lowest bad one.
pub column_kept : (s lent : List ℕ) → is_misshapen s ≡ true → size_column s lent ≡ lent
unfolding size_column sized_rows listed
column_kept s lent e = rw e

pub few_rows : (s : List ℕ) → is_misshapen s ≡ false → book_rows s ≤ 1024
unfolding is_misshapen most_records
few_rows s whole = ltb-false 1024 (book_rows s) (or_false (not (eqb (length s % row_bytes) 0)) (ltb 1024 (book_rows s)) whole).1

module _ (s lent : List ℕ) (lent_is : length lent ≡ 1024) (whole : is_misshapen s ≡ false) where
  column_told : {n : ℕ} → n ≡ lowest (bad_formula s (book s)) (book_rows s) 0 → ((k : ℕ) → k < n → GoodRow s k) → SizesTold s lent (size_column s lent) n
  unfolding size_column sized_rows
  column_told {n} is good =
      let f : ℕ → ℕ = λ k. nodes (tree_in (book s) k) in
      let few : n ≤ 1024 = omega (arith, is, (lowest_bound (bad_formula s (book s)) (book_rows s) 0).1, few_rows s whole) in
      let same_length = long f n lent (omega (arith, few)) in
      rw (whole, ← is)
      record {
        held = λ k lt. record { row = good k lt; there = omega (arith, same_length, few); size = front f n lent k lt };
        as_long = same_length;
        others = rest f n lent;
      }

  pub column_below : {after : List ℕ} {n : ℕ} → n ≡ lowest (bad_formula s (book s)) (book_rows s) 0 → SizesTold s lent after n → after ≡ size_column s lent
  column_below is told = told_one told (column_told is (λ k lt. (told.held k lt).row))

  good_rows : {n : ℕ} → n ≤ book_rows s → ((j : ℕ) → j < n → bad_formula s (book s) j ≡ false) → (k : ℕ) → k < n → GoodRow s k
  good_rows le good k lt = record { good = λ j to. good j (omega arith); inside = omega arith; few = omega (arith, few_rows s whole) }

  below_told : {p : ℕ} → Lowest (bad_formula s (book s)) (book_rows s) p → SizesTold s lent (size_column s lent) p
  below_told {p} low =
      column_told (sym (lowest_is (bad_formula s (book s)) (book_rows s) 0 p (omega arith) (omega (arith, low.0)) low.1 (λ q from below. low.2 q below)))
      (good_rows (omega (arith, low.0)) low.2)

  all_told : ((k : ℕ) → k < book_rows s → bad_formula s (book s) k ≡ false) → SizesTold s lent (size_column s lent) (book_rows s)
  all_told good =
      column_told (omega (arith, lowest_none (bad_formula s (book s)) (book_rows s) 0 (λ j from to. good j (omega arith)))) (good_rows (omega arith) good)

-- Every answer that the checks give.
module _ (s lent : List ℕ) (lent_is : length lent ≡ 1024) where
  at_fault : {n p : ℕ} → FirstFault (single 2 formula_part (is_misshapen s) ∷ book_checks s) n p → ColumnAfter s lent (size_column s lent) (refuses n p)
  unfolding book_checks
  at_fault (here q) = rw (← q.0, ← q.1) (misshapen (column_kept s lent q.2))
  at_fault (later whole (here q)) = rw (← q.0) (bad_row (below_told s lent lent_is whole q.1))
  at_fault (later whole (later good (here q))) = rw (← q.0) (repeated (all_told s lent lent_is whole good))
  at_fault (later _ (later _ (later _ q))) = elim q [ ]

  by_answer : (r : Checked (Unit {0})) → book_admission s ≡ r → ColumnAfter s lent (size_column s lent) r
  unfolding book_admission book_checks
  by_answer (accepts x) e =
      let h = all_hold (single 2 formula_part (is_misshapen s) ∷ book_checks s) e in
      admitted (all_told s lent lent_is h.0 h.1.0)
  by_answer (refuses n p) e = at_fault (first_fault (single 2 formula_part (is_misshapen s) ∷ book_checks s) n p e)

pub tells_sizes : TellsSizes
tells_sizes s lent after lent_is =
    let due = by_answer s lent lent_is (book_admission s) refl in
    (λ h. after_one h due, λ is. rw is due)

-- Of an admitted book: the sizes of all rows.
all_rows : {s lent after : List ℕ} → ColumnAfter s lent after (accepts tt) → SizesTold s lent after (book_rows s)
all_rows (admitted t) = t

pub admitted_told : (s lent : List ℕ) → length lent ≡ 1024 → book_admission s ≡ accepts tt → SizesTold s lent (size_column s lent) (book_rows s)
admitted_told s lent lent_is e = all_rows (by_answer s lent lent_is (accepts tt) e)

-- A size is one more than the sizes of the rows that the row holds, together; and so is the number of rows of its tree.
sizes_of : List Formula → List ℕ → ℕ
sizes_of l [] = 0
sizes_of l (i ∷ is) = nodes (tree_in l i) + sizes_of l is

one_more : {l : List Formula} {k : ℕ} {r : Row} → Shape l k r → nodes (tree_in l k) ≡ 1 + sizes_of l (children_of r)
unfolding nodes children_of sizes_of
one_more (predicate_row e f t) = rw (t, e)
one_more (owns_row e f t) = rw (t, e)
one_more (says_row e f t) = rw (t, e) (omega arith)
one_more (and_row e f t) = rw (t, e) (omega arith)
one_more (for_all_row e f t) = rw (t, e) (omega arith)
one_more (implies_row e f t) = rw (t, e) (omega arith)
one_more (each_use_row e f t) = rw (t, e) (omega arith)
one_more (once_row e f t) = rw (t, e) (omega arith)
one_more (communicates_row e f t) = rw (t, e) (omega arith)
one_more (creates_row e f t) = rw (t, e)
one_more (user_action_row e f g t) = rw (t, e)

pub some_nodes : {l : List Formula} {k : ℕ} {r : Row} → Shape l k r → 1 ≤ nodes (tree_in l k)
some_nodes h = omega (arith, one_more h)

module _ (s : List ℕ) where
  joined_rows : (d : ℕ) (is : List ℕ) → ((i : ℕ) → Among i is → length (rows_within s d i) ≡ nodes (tree_in (book s) i)) → length (join_all (map (rows_within s d) is)) ≡ sizes_of (book s) is
  unfolding join_all sizes_of
  joined_rows d [] h = refl
  joined_rows d (i ∷ is) h =
      length-append (rows_within s d i) (join_all (map (rows_within s d) is)) ∙ omega (arith, h i (inl refl), joined_rows d is (λ j a. h j (inr a)))

  rows_counted : (d : ℕ) {k : ℕ} → GoodRow s k → k < d → length (rows_within s d k) ≡ nodes (tree_in (book s) k)
  unfolding rows_within
  rows_counted zero g lt = absurd (omega arith)
  rows_counted (suc d) {k} g lt =
      let below = joined_rows d (children_of (row_at s k)) (λ i a. rows_counted d (child_good g a) (omega (arith, child_lower g a))) in
      omega (arith, below, one_more (shaped g))

pub size_is_rows : SizeIsRows
unfolding rows_of
size_is_rows s k g = sym (rows_counted s (book_rows s) g g.inside)

-- The bounds of sizes.
pub sizes_fit : SizesFit
sizes_fit s k g = (some_nodes (shaped g), row_small s k (g.good k (omega arith)))

-- The column is of the book alone, and that is the same in alike files and in the struck one.
pub sizes_show_no_row : SizesShowNoRow
sizes_show_no_row s lent = (
  λ t alike. ap (λ b. size_column b lent) alike.formulas,
  ⊎_elim (λ same. ap (λ t. column_of t lent) (sym same)) (λ parted. ap (λ b. size_column b lent) (alike_struck s parted).formulas) (struck_or_parted s),
)
