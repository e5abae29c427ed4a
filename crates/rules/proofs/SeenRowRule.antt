-- Rule 2, by what the table says that the agent sees of a row, and by the row's conclusion. Assumes nothing.
use Prim.Native.Nat.{ℕ, ◌<◌}
use mathlib.Core.Path.{◌≡◌, refl, sym, ap, ◌∙◌}
use mathlib.Core.Bool.{false}
use mathlib.Core.List.{List, []}
use native.Mathlib.Omega.{arith}
use lib.ListN.{get_or}
use Rattle.definition.specs.13-Formulas.{Formula}
use Rattle.definition.specs.14-Book.{tree_in, book as trees}
use Rattle.definition.specs.11-Layout.{agent_of}
use Rattle.definition.specs.15-Records.{log_of, rows_in, formulas}
use Rattle.case_file.specs.Seen.{code_view}
use Rattle.case_file.specs.Meanings.{view_meant}
use Rattle.definition.specs.17-Case.{case_of}
use Rattle.case_file.specs.declared.log_checks.View.{View}
use Rattle.case_file.specs.declared.log_checks.View.TheVariants.{Hidden, Struck, Shows}
use Rattle.case_file.proofs.Laws.{shown_named}
use Rattle.definition.specs.21-Rules.{is_that, conclusion, row_conclusion, seen_row}
use Rattle.case_file.specs.LentCase.{CaseLent, Numbered}
use Rattle.rules.specs.Policies.{policy_meant, PolicyIs}
use Rattle.std.specs.Prelude as std
use Rattle.formula_rows.specs.declared.rows.Row as rows
use Rattle.case_file.proofs.LentCaseLaws.{parted, rows_few, numbered}
use Rattle.rules.proofs.CitedFormulas.{named}

-- Row k of the log, and the view w of it that the table gives.
module _ {s b v : List ℕ} (case : CaseLent s b v) (k : ℕ) (inside : k < rows_in (log_of s)) where
  pub row_few : k < 1024
  row_few = omega (arith, inside, rows_few s (parted case.lent))

  module _ (w : View) (is : (l : List Formula) → view_meant l w ≡ code_view l (get_or v k 0)) where
    row_view : (case_of s).row k ≡ view_meant (formulas s) w
    unfolding case_of
    row_view = sym (is (formulas s) ∙ case.views k inside)

    seen_as : (f : Formula) → seen_row (case_of s) f k [] ≡ is_that f (row_conclusion (agent_of s) (view_meant (formulas s) w))
    unfolding seen_row case_of
    seen_as f = ap (λ x. is_that f (row_conclusion (agent_of s) x)) row_view

  module _ (n : ℕ) (is : (l : List Formula) → view_meant l (Shows n) ≡ code_view l (get_or v k 0)) where
    pub shown_numbered : Numbered b n
    unfolding view_meant case_of
    shown_numbered = numbered case.lent (shown_named s case.lent.admitted k n inside (row_view (Shows n) is))

    -- The conclusion, as a policy.
    module _ {agent : ℕ} (agent_is : agent ≡ agent_of s) (p : std.Option rows.Row) (given : PolicyIs b p (conclusion agent (tree_in (trees b) n))) (f : Formula) where
      pub seen_policy : seen_row (case_of s) f k [] ≡ is_that f (policy_meant (trees b) p)
      unfolding view_meant row_conclusion
      seen_policy =
          seen_as (Shows n) is f
          ∙ ap (is_that f) (ap (conclusion (agent_of s)) (sym (named case.lent refl)) ∙ ap (λ a. conclusion a (tree_in (trees b) n)) (sym agent_is) ∙ sym given.is)

  -- A row that shows nothing has no conclusion: the variants Hidden and Struck.
  pub unseen :
      (w : View) → ((l : List Formula) → view_meant l w ≡ code_view l (get_or v k 0)) → ((n : ℕ) → w ≡ Shows n → ⊥) → (f : Formula) →
      seen_row (case_of s) f k [] ≡ false
  unfolding view_meant row_conclusion is_that
  unseen Hidden is t f = seen_as Hidden is f
  unseen Struck is t f = seen_as Struck is f
  unseen (Shows n) is t f = absurd (t n refl)
