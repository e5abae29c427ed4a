-- Rule 5: the premises "agent owns D" compared one by one with a table that holds the data. Assumes nothing.
use Prim.Native.Nat.{ℕ, zero, suc, ◌+◌, ◌≤◌, ◌<◌}
use mathlib.Core.Path.{◌≡◌, refl, sym, ap, ◌∙◌}
use mathlib.Core.Bool.{Bool, true, false, ◌&&◌}
use mathlib.Core.List.{List, map}
use native.Mathlib.Omega.{arith}
use lib.ListN.{length, length-map, get_or, take}
use lib.Seq.{length-take-le, drop-cons}
use lib.ListN.{drop}
use Rattle.std.specs.List.{list_all, range_with_len}
use Rattle.definition.specs.02-Ranges.{listed}
use Rattle.definition.proofs.Tests.{never_true}
use Rattle.definition.specs.13-Formulas.{Formula, says, owns, same, data_variable, has, data_of, first_part, target}
use Rattle.definition.specs.14-Book.{row_at, tree_in, book as trees}
use Rattle.formula_walks.specs.DataLists.{front}
use Rattle.formula_rows.specs.Meanings.{row_meant}
use Rattle.formula_rows.specs.declared.rows.Row as rows
use Rattle.definition.specs.11-Layout.{agent_of}
use Rattle.definition.specs.15-Records.{formulas, step_formula, premise_step}
use Rattle.definition.specs.17-Case.{case_of}
use Rattle.definition.specs.21-Rules.{same_all, owner}
use Rattle.case_file.specs.LentCase.{Lent, Numbered}
use Rattle.rules.specs.PremiseFormulas.{PremiseThere, premise_trees}
use Rattle.definition.proofs.RangeLaws.{listed_length}
use Rattle.definition.proofs.RuleLaws.{same_all_lem}
use Rattle.case_file.proofs.LentCaseLaws.{parted, premises_few}
use Rattle.rules.proofs.CitedFormulas.{named}
use Rattle.rules.proofs.FormulaParts.{says_tree}

-- The first n premises from `from` on, t being the formulas of all, against the first n entries of the table.
module _ (t : ℕ → Formula) (agent : ℕ) where
  -- as a range walks them, from i on
  pub owned_is :
      (from n i : ℕ) (set : List ℕ) → i + n ≤ length set →
      list_all (λ j. same (t (from + j)) (owns agent (get_or set j 0))) (range_with_len i n) ≡ same_all (listed t n (from + i)) (map (owns agent) (take n (drop i set)))
  unfolding same_all listed
  owned_is from zero i set le = refl
  owned_is from (suc n) i set le =
      let next : from + i + 1 ≡ from + (i + 1) = omega arith in
      let h = owned_is from n (i + 1) set (omega arith) in
      let one : suc i ≡ i + 1 = omega arith in
      let same_place : drop (suc i) set ≡ drop (i + 1) set = ap (λ k. drop k set) one in
      rw (drop-cons set i 0 (omega arith), next, same_place) (ap (λ q. same (t (from + i)) (owns agent (get_or set i 0)) && q) h)

  -- Another number of premises than of data.
  pub not_as_many : (n from : ℕ) (ds : List ℕ) → (length ds ≡ n → ⊥) → same_all (listed t n from) (map (owns agent) ds) ≡ false
  not_as_many n from ds other =
      never_true (same_all (listed t n from) (map (owns agent) ds))
      (λ e. other (sym (length-map ds (owns agent)) ∙ ap length (sym ((same_all_lem (listed t n from) (map (owns agent) ds)).0 e)) ∙ listed_length t n from))

-- A premise that was read and compared.
pub compared : {s b : List ℕ} {n m : ℕ} {t : Bool} → Lent s b → n ≡ m → (g : Formula) → same (tree_in (trees b) n) g ≡ t → same (tree_in (formulas s) m) g ≡ t
compared lent e g q = ap (λ f. same f g) (sym (named lent e)) ∙ q

-- The premise entries of a file are few.
pub premise_few : {s b : List ℕ} {j : ℕ} → Lent s b → PremiseThere s j → j < 2048
premise_few {s} lent p = let h = p.entry in omega (arith, premises_few s (parted lent))

-- The data of a formula, as a table holds them in its first r entries.
module _ (s : List ℕ) (agent : ℕ) (f : Formula) (set : List ℕ) {r : ℕ} (long : length set ≡ 192) (few : r ≤ 192) (is : front set r ≡ data_of f) (from : ℕ) where
  pub other_count : {len : ℕ} → (r ≡ len → ⊥) → false ≡ same_all (premise_trees s from len) (map (owns agent) (data_of f))
  unfolding premise_trees
  other_count {len} other =
      sym (not_as_many (λ j. tree_in (formulas s) (step_formula s (premise_step s j))) agent len from (data_of f)
      (λ e. other (sym (length-take-le r set (omega (arith, few, long))) ∙ ap length is ∙ e)))

  pub as_counted : {len : ℕ} {q : Bool} → r ≡ len → q ≡ same_all (premise_trees s from len) (map (owns agent) (front set len)) → q ≡ same_all (premise_trees s from len) (map (owns agent) (data_of f))
  as_counted counts q = rw (← is, counts) q

and_itself : (a : Bool) → a && true ≡ a
and_itself true = refl
and_itself false = refl

-- A grant by an agent.
module _ {b : List ℕ} {k : ℕ} (r : rows.Row) (n : Numbered b k) (is : row_meant r ≡ row_at b k) where
  pub granted :
      {q : Bool} (agent : ℕ) → r.kind ≡ 2 → q ≡ same (tree_in (trees b) k) (says agent (tree_in (trees b) r.y) r.z) →
      q ≡ same (tree_in (trees b) k) (says agent (first_part (tree_in (trees b) k)) (target (tree_in (trees b) k)))
  unfolding first_part target
  granted agent e q =
      let body : first_part (tree_in (trees b) k) ≡ tree_in (trees b) r.y = ap first_part (says_tree r n is e) in
      let to : target (tree_in (trees b) k) ≡ r.z = ap target (says_tree r n is e) in
      rw (body, to) q

-- The rule at formula f, in which no data variable stands.
module _ (s : List ℕ) (f : Formula) (ps : List Formula) {agent : ℕ} (agent_is : agent ≡ agent_of s) (clear : has data_variable 0 f ≡ false) where
  pub owner_is : (a : ℕ) → owner (case_of s) f a ps ≡ same f (says agent (first_part f) (target f)) && same_all ps (map (owns agent) (data_of f))
  unfolding owner case_of
  owner_is a = rw (agent_is, clear) (ap (λ (q : Bool). q && same_all ps (map (owns (agent_of s)) (data_of f))) (and_itself (same f (says (agent_of s) (first_part f) (target f)))))
