-- Check 27 of a formula: a run that refuses tells of a data variable in it, and one that does not answers what was asked. Assumes nothing.
use Prim.Native.Nat.{ℕ}
use mathlib.Core.Path.{◌≡◌, refl, sym}
use mathlib.Core.Bool.{Bool, true, false, cond}
use mathlib.Core.List.{List}
use Rattle.std.specs.Prelude.{Ok, Err}
use Rattle.definition.proofs.CheckLaws.{never_both}
use Rattle.definition.specs.04-Checks.{accepts, ◌>>◌, check, try, single}
use Rattle.definition.specs.13-Formulas.{data_variable, has}
use Rattle.definition.specs.14-Book.{tree_in, book, stray_row}
use Rattle.formula_book.specs.DataAnswers.{stray, clear, stray_or, by_stray}
use Rattle.words.specs.declared.runs.Refusal.{Refusal}
use Rattle.words.specs.Meanings.{run_meant}

module _ {A B : Type 0} (b : List ℕ) (f : ℕ) where
  -- A run that refuses is the same, whatever was asked.
  pub stray_told : (e : Refusal) (x : A) (y : B) → run_meant (Err e) ≡ by_stray (stray_or b f x) → run_meant {A = B} (Err e) ≡ by_stray (stray_or b f y)
  unfolding run_meant by_stray stray_or
  stray_told e x y h = go (has data_variable 0 (tree_in (book b) f)) h
    where
      go :
          (v : Bool) → run_meant {A = A} (Err e) ≡ by_stray (cond v (stray (stray_row b f)) (clear x)) →
          run_meant {A = B} (Err e) ≡ by_stray (cond v (stray (stray_row b f)) (clear y))
      go true h = cc
      go false h = absurd (never_both (sym h))

module _ {A : Type 0} (b : List ℕ) (f : ℕ) where
  pub clear_told : (x y : A) → run_meant (Ok x) ≡ by_stray (stray_or b f y) → (has data_variable 0 (tree_in (book b) f) ≡ false) × (x ≡ y)
  unfolding run_meant by_stray stray_or
  clear_told x y h = go (has data_variable 0 (tree_in (book b) f)) refl h
    where
      go :
          (v : Bool) → has data_variable 0 (tree_in (book b) f) ≡ v → run_meant (Ok x) ≡ by_stray (cond v (stray (stray_row b f)) (clear y)) →
          (has data_variable 0 (tree_in (book b) f) ≡ false) × (x ≡ y)
      go true e h = absurd (never_both h)
      go false e h = (e, cc)

  pub clear_run : {x y : A} → has data_variable 0 (tree_in (book b) f) ≡ false → x ≡ y → run_meant (Ok x) ≡ by_stray (stray_or b f y)
  unfolding run_meant by_stray stray_or
  clear_run e h = rw (e, h)

  -- As check 27 of the definition, and then the answer.
  pub stray_run : (y : A) → by_stray (stray_or b f y) ≡ ◌>>◌ (try (single 27 (stray_row b f) (has data_variable 0 (tree_in (book b) f)))) (accepts y)
  unfolding by_stray stray_or try check ◌>>◌
  stray_run y = go (has data_variable 0 (tree_in (book b) f))
    where
      go : (v : Bool) → by_stray (cond v (stray (stray_row b f)) (clear y)) ≡ ◌>>◌ (check 27 (stray_row b f) v) (accepts y)
      go true = refl
      go false = refl
