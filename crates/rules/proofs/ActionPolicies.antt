-- What an action gives rise to, by the kind of its row: the conclusion that the agent may draw from it, and what it owes. Assumes nothing.
use Prim.Native.Nat.{ℕ}
use mathlib.Core.Path.{◌≡◌, refl, sym, ap, ◌∙◌}
use mathlib.Core.Bool.{Bool, true, false, cond}
use Rattle.std.specs.Bool.{then_some}
use mathlib.Core.Option.{Option, none, some}
use mathlib.Core.List.{List}
use lib.Dec.{eqb}
use Rattle.definition.specs.13-Formulas.{Formula, kind_of, predicate, owns, says, and, for_all, implies, after, communicates, creates, user_action, no_formula}
use Rattle.definition.specs.14-Book.{row_at, tree_in, book as trees}
use Rattle.formula_rows.specs.Meanings.{row_meant}
use Rattle.formula_rows.specs.declared.rows.Row as rows
use Rattle.formula_book.proofs.Laws.{communicates_kind, creates_kind, user_action_kind}
use Rattle.definition.specs.11-Layout.{agent_of, action_of}
use Rattle.definition.specs.17-Case.{case_of}
use Rattle.case_file.proofs.Laws.{audit_named}
use Rattle.case_file.proofs.LentCaseLaws.{numbered}
use Rattle.definition.specs.21-Rules.{conclusion, owed}
use Rattle.definition.specs.31-Outcome.{owes}
use Rattle.case_file.specs.LentCase.{Lent, Numbered}
use Rattle.rules.specs.Policies.{policy_meant, PolicyIs, StandsFor}
use Rattle.std.specs.Prelude as std
use Rattle.rules.proofs.CitedFormulas.{named}
use Rattle.rules.proofs.ComparedRows.{lower, read_shape, kind_is}

-- Actions of other kinds give nothing.
no_more : (agent : ℕ) (f : Formula) → (kind_of f ≡ 8 → ⊥) → ((kind_of f ≡ 9 → ⊥) → conclusion agent f ≡ none) × ((kind_of f ≡ 10 → ⊥) → owed agent f ≡ none)
unfolding conclusion owed
no_more a (communicates x f z) h = absurd (h refl)
no_more a (creates x y) h = ((λ i. absurd (i refl)), (λ i. refl))
no_more a (user_action c x y z) h = ((λ i. refl), (λ i. absurd (i refl)))
no_more a (predicate c x y z) h = ((λ i. refl), (λ i. refl))
no_more a (owns x y) h = ((λ i. refl), (λ i. refl))
no_more a (says x f z) h = ((λ i. refl), (λ i. refl))
no_more a (and f g) h = ((λ i. refl), (λ i. refl))
no_more a (for_all σ f) h = ((λ i. refl), (λ i. refl))
no_more a (implies f g) h = ((λ i. refl), (λ i. refl))
no_more a (after m x f) h = ((λ i. refl), (λ i. refl))
no_more a no_formula h = ((λ i. refl), (λ i. refl))

-- Formula k by its row as it was read.
module _ {b : List ℕ} {k : ℕ} (agent : ℕ) (r : rows.Row) (n : Numbered b k) (is : row_meant r ≡ row_at b k) where
  -- A communication gives "X says Y to Z" if `who` is the agent: Z for the conclusion, X for what is owed.
  pub communicated :
      (gives : ℕ → Formula → Option Formula) (who : ℕ) (p : std.Option rows.Row) → ((f : Formula) → gives agent (communicates r.x f r.z) ≡ cond (eqb who agent) (some (says r.x f r.z)) none) →
      r.kind ≡ 8 → (Numbered b r.y → PolicyIs b p (cond (eqb who agent) (some (says r.x (tree_in (trees b) r.y) r.z)) none)) → PolicyIs b p (gives agent (tree_in (trees b) k))
  unfolding row_meant
  communicated gives who p is_says e given =
      let t = communicates_kind (read_shape r n is) e in
      rw (t.0, is_says (tree_in (trees b) r.y)) (given (lower n t.1))

  pub created : (p : std.Option rows.Row) → r.kind ≡ 9 → PolicyIs b p (cond (eqb r.x agent) (some (owns r.x r.y)) none) → PolicyIs b p (conclusion agent (tree_in (trees b) k))
  unfolding conclusion row_meant
  created p e given = rw (creates_kind (read_shape r n is) e) given

  pub acted : (p : std.Option rows.Row) → r.kind ≡ 10 → PolicyIs b p (cond (eqb r.x agent) (some (predicate r.code r.x r.y r.z)) none) → PolicyIs b p (owed agent (tree_in (trees b) k))
  unfolding owed row_meant
  acted p e given = rw (user_action_kind (read_shape r n is) e) given

  -- The kind of the row is that of the tree.
  kind : (m : ℕ) → (r.kind ≡ m → ⊥) → kind_of (tree_in (trees b) k) ≡ m → ⊥
  kind m other e = other (kind_is r n is ∙ e)

  pub concludes_nothing : (r.kind ≡ 8 → ⊥) → (r.kind ≡ 9 → ⊥) → PolicyIs b std.None (conclusion agent (tree_in (trees b) k))
  unfolding policy_meant
  concludes_nothing h i = record { is = sym ((no_more agent _ (kind 8 h)).0 (kind 9 i)); told = tt }

  pub owes_nothing : (r.kind ≡ 8 → ⊥) → (r.kind ≡ 10 → ⊥) → PolicyIs b std.None (owed agent (tree_in (trees b) k))
  unfolding policy_meant
  owes_nothing h i = record { is = sym ((no_more agent _ (kind 8 h)).1 (kind 10 i)); told = tt }

-- What the audited action owes, with its number m and the agent a as they were read.
module _ {s b : List ℕ} (lent : Lent s b) {m : ℕ} (action : m ≡ action_of s) where
  pub action_numbered : Numbered b m
  action_numbered = rw action (numbered lent (audit_named s lent.admitted))

  pub owes_told : {a : ℕ} {p : std.Option rows.Row} → a ≡ agent_of s → PolicyIs b p (owed a (tree_in (trees b) m)) → policy_meant (trees b) p ≡ owes (case_of s)
  unfolding owes case_of
  owes_told agent h = h.is ∙ (λ i. owed (agent i) (named lent action i))

-- The policy of a row, if a test holds.
pub given_if : {b : List ℕ} {r : rows.Row} {f : Formula} (t : Bool) → StandsFor b r f → PolicyIs b (then_some t r) (cond t (some f) none)
unfolding policy_meant
given_if true stands = record { is = ap some stands.is; told = stands.tells }
given_if false stands = record { is = refl; told = tt }
