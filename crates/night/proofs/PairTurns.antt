-- The loop over the pairs: what a pair passed means for the next one, and what the loop comes to. Assumes nothing.
use Prim.Native.Nat.{ℕ, ◌+◌, ◌-◌, ◌≤◌, ◌<◌}
use mathlib.Core.Path.{◌≡◌, sym, ◌∙◌}
use mathlib.Core.Bool.{Bool, true, false, or-false}
use mathlib.Core.Logic.{inl, inr, ⊎_elim}
use mathlib.Core.List.{List}
use native.Mathlib.Omega.{arith}
use lib.ListN.{length}
use lib.Dec.{eqb, ltb}
use borrow.Author.Tests.{lt-ltb, le-ltb, lt-leb, ne_eqb}
use Rattle.definition.proofs.CheckLaws.{try_refuses, stops, hold_all}
use Rattle.definition.proofs.NightPairs.{bad_pair_is}
use Rattle.definition.proofs.Tests.{refutes, below_or_not}
use Rattle.definition.specs.04-Checks.{single, try, in_order}
use Rattle.definition.specs.36-Night.{most_files, pair_offset, pair_end, last_end, whole_pairs, begun_pairs, bad_pair, pair_checks}
use Rattle.definition.specs.71-Nights.{BadPair}
use Rattle.std.specs.Prelude.{Ok, Err}
use Rattle.words.specs.Meanings.{run_meant}
use Rattle.words.specs.declared.runs.Refusal.{Refusal}

module _ (files list : List ℕ) where
  -- What is at fault, as the test has it; and where all but its end is in order, the end decides.
  pub at_fault : {k : ℕ} → BadPair files list k → true ≡ bad_pair files list k
  at_fault {k} b = sym ((bad_pair_is files list k).1 b)

  pub early : (k : ℕ) → pair_offset list k < last_end list k → true ≡ bad_pair files list k
  unfolding bad_pair
  early k lt = rw (lt-ltb (pair_offset list k) (last_end list k) lt)

  pub by_end : (k : ℕ) → k < most_files → k < whole_pairs list → last_end list k ≤ pair_offset list k → ltb (length files) (pair_end list k) ≡ bad_pair files list k
  unfolding bad_pair
  by_end k few whole behind =
      rw (le-ltb (pair_offset list k) (last_end list k) behind, lt-leb (whole_pairs list) k whole, lt-leb most_files k few)
      (sym (or-false _ ∙ or-false (ltb (length files) (pair_end list k))))

  -- A pair that is not at fault is whole.
  pub not_at_fault : {k : ℕ} → bad_pair files list k ≡ false → (k < whole_pairs list) × (k < most_files)
  unfolding whole_pairs
  not_at_fault {k} e =
      let none = (refutes (bad_pair_is files list k)).0 e in (
        ⊎_elim (λ lt. lt) (λ le. absurd (none (inr (inr (inl (omega arith)))))) (below_or_not k (whole_pairs list)),
        ⊎_elim (λ lt. lt) (λ le. absurd (none (inr (inr (inr le))))) (below_or_not k most_files),
      )

  -- Where it ends is where the next one may begin.
  pub last_next : (k : ℕ) → pair_end list k ≡ last_end list (k + 1)
  unfolding last_end
  last_next k =
      let some : eqb (k + 1) 0 ≡ false = ne_eqb (k + 1) 0 (λ e. omega arith) in
      let one : k + 1 - 1 ≡ k = omega arith in
      rw (some, one)

  -- Where no pair below k is at fault: the loop never comes beyond the 65th.
  module _ {k : ℕ} (none : (j : ℕ) → j < k → bad_pair files list j ≡ false) where
    pub few_passed : k ≤ most_files
    few_passed = ⊎_elim (λ many. absurd (omega (arith, (not_at_fault (none most_files many)).1))) (λ le. le) (below_or_not most_files k)

    -- Check 33 refuses pair k just if it refuses the list there, and where there is no pair k it accepts.
    pub found_bad : (r : Refusal) → k < begun_pairs list → {b : Bool} → b ≡ bad_pair files list k → run_meant {A = Unit {0}} (Err r) ≡ try (single 33 k b) → run_meant {A = Unit {0}} (Err r) ≡ in_order (pair_checks files list)
    unfolding run_meant pair_checks
    found_bad r lt is e =
        let f = try_refuses _ _ _ (sym e) in
        sym (stops _ _ _ _ (f.0, (rw (← f.1) lt, rw (← f.1) (sym is ∙ f.2), λ j below. none j (rw f.1 below))))

    pub none_found : begun_pairs list ≤ k → run_meant (Ok tt) ≡ in_order (pair_checks files list)
    unfolding run_meant pair_checks
    none_found le = sym (hold_all _ ((λ j lt. none j (omega arith)), tt))
