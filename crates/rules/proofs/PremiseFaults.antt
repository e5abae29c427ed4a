-- Checks 24 and 25: the premises looked at one by one, each by its row. Assumes nothing.
use Prim.Native.Nat.{ℕ, zero, suc, ◌+◌}
use mathlib.Core.Path.{◌≡◌, refl, sym, ap, ◌∙◌}
use mathlib.Core.Bool.{Bool, true, ◌||◌}
use native.Mathlib.Omega.{arith}
use lib.Dec.{eqb}
use borrow.Author.Tests.{eqb-true, eq-eqb, ne_eqb}
use Rattle.std.specs.List.{list_any, range_with_len}
use Rattle.definition.proofs.RangeLaws.{any_agrees, listed_length, listed_at}
use Rattle.definition.specs.02-Ranges.{any, listed}
use Rattle.definition.specs.13-Formulas.{Formula, no_formula, kind_of, source, target}
use Rattle.definition.specs.21-Rules.{Asked, Asks, has_party, any_faulty}
use Rattle.formula_rows.specs.declared.rows.Row as rows
use Rattle.rules.specs.Misfits.{asked_meant, RowTells}
use Rattle.rules.specs.declared.fit.Asked as asked
use Rattle.rules.specs.declared.fit.Asked.TheVariants.{Anything, SaysToAgent, AgentSays, AgentOwns, And, ForAll, Implies, Duty}

-- The parties of a row of the right kind.
module _ {r : rows.Row} {f : Formula} (told : RowTells r f) where
  of_kind : (n : ℕ) → eqb (kind_of f) n ≡ true → r.kind ≡ n
  of_kind n e = told.kind ∙ eqb-true (kind_of f) n e

  pub owner_is : (agent : ℕ) → eqb (kind_of f) 1 ≡ true → eqb r.x agent ≡ eqb (source f) agent
  owner_is agent e = ap (λ x. eqb x agent) (told.owner (of_kind 1 e))

  pub source_is : (agent : ℕ) → eqb (kind_of f) 2 ≡ true → eqb r.x agent ≡ eqb (source f) agent
  source_is agent e = ap (λ x. eqb x agent) (told.source (of_kind 2 e))

  pub target_is : (agent : ℕ) → eqb (kind_of f) 2 ≡ true → eqb r.z agent ≡ eqb (target f) agent
  target_is agent e = ap (λ x. eqb x agent) (told.target (of_kind 2 e))

-- Of the others no party is asked.
pub no_party : (agent : ℕ) (f : Formula) (a : asked.Asked) → (a ≡ SaysToAgent → ⊥) → (a ≡ AgentSays → ⊥) → (a ≡ AgentOwns → ⊥) → true ≡ has_party agent (asked_meant a) f
unfolding has_party asked_meant
no_party agent f SaysToAgent x y z = absurd (x refl)
no_party agent f AgentSays x y z = absurd (y refl)
no_party agent f AgentOwns x y z = absurd (z refl)
no_party agent f Anything x y z = refl
no_party agent f And x y z = refl
no_party agent f ForAll x y z = refl
no_party agent f Implies x y z = refl
no_party agent f Duty x y z = refl

-- Kind 6 or 7, tried in that order.
module _ {k n : ℕ} (is : k ≡ n) where
  pub duty_first : k ≡ 6 → eqb k 6 ≡ eqb n 6 || eqb n 7
  duty_first e = rw (← is, eq-eqb k 6 e)

  pub duty_second : (k ≡ 6 → ⊥) → eqb k 7 ≡ eqb n 6 || eqb n 7
  duty_second other = rw (ne_eqb n 6 (λ e. other (is ∙ e)), is)

-- The premises by their numbers; t are the formulas of the premise entries.
module _ (fault : Asked → Formula → Bool) (asks : Asks) (t : ℕ → Formula) (from len : ℕ) where
  pub faulty_is : any (λ i. fault (asks i) (t (from + i))) len 0 ≡ any_faulty fault asks (listed t len from)
  unfolding any_faulty
  faulty_is =
      rw (listed_length t len from)
      (any_agrees _ _ len 0 (λ j above below. ap (fault (asks j)) (sym (listed_at t no_formula len from j (omega arith)))))

-- The test of one of the numbers from i on, as a range walks them.
pub any_in_range : (p : ℕ → Bool) (n i : ℕ) → list_any p (range_with_len i n) ≡ any p n i
unfolding any
any_in_range p zero i = refl
any_in_range p (suc n) i = rw (any_in_range p n (i + 1))
