-- What a walk from a formula has gathered tells its data, or the lowest row that itself holds a data variable. The walk began with none. Assumes nothing.
use Prim.Native.Nat.{ℕ, ◌+◌, ◌≤◌, ◌<◌}
use Rattle.std.proofs.Common.{Option, Some, None, unwrap_or}
use mathlib.Core.Path.{◌≡◌, refl, sym, ap}
use mathlib.Core.Bool.{Bool, true, false, cond}
use mathlib.Core.Logic.{inr, ⊎_elim}
use mathlib.Core.List.{List}
use native.Mathlib.Omega.{arith}
use Rattle.definition.specs.04-Checks.{accepts, refuses}
use Rattle.definition.proofs.StrayLaws.{reached_below, some_stray, stray_has, stray_row_lem}
use Rattle.definition.proofs.Tests.{never_true}
use Rattle.definition.specs.13-Formulas.{data_variable, has}
use Rattle.definition.specs.14-Book.{tree_in, book, stray_row}
use Rattle.definition.specs.41-Occurrences.{Stray, StrayIs}
use Rattle.formula_book.specs.DataAnswers.{stray, clear, stray_or, by_stray}
use Rattle.formula_book.specs.GoodRows.{GoodRow}
use Rattle.formula_walks.specs.DataWalk.{Lowered}

module _ {s : List ℕ} {row : ℕ} {low : Option ℕ} (g : GoodRow s row) (l : Lowered (Stray s row) None low) where
  found : (at : ℕ) → low ≡ Some at → Stray s row at
  found at e = ⊎_elim (λ f. let is = ap (λ (o : Option ℕ). unwrap_or o (at + 1)) f in absurd (omega arith)) (λ w. w) (l.from at e)

  pub stray_below : (at : ℕ) → low ≡ Some at → at < 1024
  stray_below at e = omega (arith, reached_below g (found at e).0, g.inside, g.few)

  at_least : (at q : ℕ) → low ≡ Some at → Stray s row q → at ≤ q
  at_least at q e h = let m = l.least q (inr h) in rw e at m

  lowest_found : (at : ℕ) → low ≡ Some at → StrayIs s row at
  lowest_found at e =
      let w = found at e in
      record {
        inside = omega (arith, g.inside, reached_below g w.0);
        holds = w.1;
        reached = w.0;
        lowest = λ q lt r h. omega (arith, at_least at q e (r, h));
      }

  -- A run that refuses such a row is the definition's, and so is one that answers where there is none.
  pub told_stray : {A : Type 0} (y : A) (at : ℕ) → low ≡ Some at → refuses 27 at ≡ by_stray (stray_or s row y)
  unfolding stray_or by_stray
  told_stray y at e = rw (stray_has g (found at e), stray_row_lem g (lowest_found at e))

  pub told_data : {A : Type 0} {x y : A} → low ≡ None → x ≡ y → accepts x ≡ by_stray (stray_or s row y)
  unfolding stray_or by_stray
  told_data is_none e =
      let none : has data_variable 0 (tree_in (book s) row) ≡ false =
      never_true _ (λ h. let w = some_stray (row + 1) row (omega arith) g h in let m = l.least w.0 (inr w.1) in absurd (rw is_none at m)) in
      rw (none, e)

-- What is told says whether a data variable stands in the formula, and the other way round.
not_both_told : {A : Type 0} {p : ℕ} {x : A} → stray p ≡ clear x → ⊥
not_both_told e = let z : ◌≡◌ {A = ℕ} 0 1 = cc in omega arith

module _ {A : Type 0} (s : List ℕ) (row : ℕ) (answer : A) where
  abbrev HasVariable : Bool → Type 0
  HasVariable v = has data_variable 0 (tree_in (book s) row) ≡ v

  pub is_stray : {p : ℕ} → HasVariable true → p ≡ stray_row s row → stray p ≡ stray_or s row answer
  unfolding stray_or
  is_stray e h = rw (e, h)

  pub is_clear : {x : A} → HasVariable false → x ≡ answer → clear x ≡ stray_or s row answer
  unfolding stray_or
  is_clear e h = rw (e, h)

  pub stray_is : {p : ℕ} → stray p ≡ stray_or s row answer → HasVariable true × (p ≡ stray_row s row)
  unfolding stray_or
  stray_is {p} e = go (has data_variable 0 (tree_in (book s) row)) refl e
    where
      go : (v : Bool) → HasVariable v → stray p ≡ cond v (stray (stray_row s row)) (clear answer) → HasVariable true × (p ≡ stray_row s row)
      go true h q = (h, cc)
      go false h q = absurd (not_both_told q)

  pub clear_is : {x : A} → clear x ≡ stray_or s row answer → HasVariable false × (x ≡ answer)
  unfolding stray_or
  clear_is {x} e = go (has data_variable 0 (tree_in (book s) row)) refl e
    where
      go : (v : Bool) → HasVariable v → clear x ≡ cond v (stray (stray_row s row)) (clear answer) → HasVariable false × (x ≡ answer)
      go true h q = absurd (not_both_told (sym q))
      go false h q = (h, cc)
