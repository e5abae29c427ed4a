-- Checks 27 and 24 to 26 say why a step does not fit: where check 18 holds, so do they. Rule by rule. Assumes nothing.
use Prim.Native.Nat.{ℕ, zero, suc, ◌≤◌, ◌<◌}
use mathlib.Core.Path.{◌≡◌, refl, sym, ap, subst}
use mathlib.Core.Bool.{Bool, true, false, not, and-false, ◌&&◌}
use mathlib.Core.Logic.{⊎_elim}
use mathlib.Core.List.{List, [], ◌∷◌, map}
use native.Mathlib.Omega.{arith}
use lib.ListN.{length, get_or, get_or-eq_default}
use lib.Dec.{eqb, ltb}
use borrow.Author.Tests.{ltb-true, ltb-false, eqb-true, eq-eqb, not-false, not-true}
use Rattle.definition.proofs.RangeLaws.{any_none}
use Rattle.definition.proofs.RuleLaws.{Numbered, rule_0, rule_1, rule_2, rule_3, rule_4, rule_5, rule_6, rule_7, rule_8, rule_9, rule_10, rule_11, rule_12, rule_13, rule_14, rule_15, numbered, duty_is, same_all_lem}
use Rattle.definition.proofs.Tests.{and_true, not_both, never_true}
use Rattle.definition.proofs.TreeEquality.{same_true}
use Rattle.definition.specs.13-Formulas.{Formula, no_formula, owns, says, after, same, data_variable, has, source, target, first_part, data_of}
use Rattle.definition.specs.15-Records.{is_duty}
use Rattle.definition.specs.17-Case.{Case}
use Rattle.definition.specs.21-Rules.{first, second, say, refine, owner, and_left, and_right, implies_elim, duty_by_obligation, duty_by_label, for_all_intro, for_all_elim, admits_parameter, admits_term, other_premise, other_formula, no_instance, Asked, says_to_agent, agent_says, agent_owns, an_and, a_for_all, an_implies, a_duty, has_kind, has_party, is_other_kind, is_other_party, Asks, in_turn, of_every, any_faulty, Rule, rule, rules, rule_at}
use Rattle.definition.specs.22-Steps.{rule_of, stray_variable, wrong_kind, wrong_party, wrong_instance, misfit, misfit_checks, fit_checks}
use Rattle.definition.specs.46-Requests.{FitsAsBefore}

-- a premise is as asked, and so are all premises
record AsAsked (agent : ℕ) (q : Asked) (p : Formula) : Type 0 where
  kind : has_kind q p ≡ true
  party : has_party agent q p ≡ true

abbrev AllAsked : (agent : ℕ) → Asks → List Formula → Type 0
AllAsked agent asks ps = (i : ℕ) → i < length ps → AsAsked agent (asks i) (get_or ps i no_formula)

module _ (agent : ℕ) (asks : Asks) (ps : List Formula) (h : AllAsked agent asks ps) where
  right_kinds : any_faulty is_other_kind asks ps ≡ false
  unfolding any_faulty is_other_kind
  right_kinds = any_none _ (length ps) 0 (λ i from to. rw (h i (omega arith)).kind)

  right_parties : any_faulty (is_other_party agent) asks ps ≡ false
  unfolding any_faulty is_other_party
  right_parties = any_none _ (length ps) 0 (λ i from to. let w = h i (omega arith) in rw (w.kind, w.party))

-- premises of which the first ones are asked something: none, one, two
module _ (agent : ℕ) (ps : List Formula) where
  none_asked : AllAsked agent (in_turn []) ps
  unfolding in_turn has_kind has_party
  none_asked i lt = record { kind = refl; party = refl }

  first_asked : (q : Asked) → AsAsked agent q (first ps) → AllAsked agent (in_turn (q ∷ [])) ps
  unfolding first in_turn has_kind has_party
  first_asked q h zero lt = h
  first_asked q h (suc i) lt = record { kind = refl; party = refl }

  two_asked : (q r : Asked) → AsAsked agent q (first ps) → AsAsked agent r (second ps) → AllAsked agent (in_turn (q ∷ r ∷ [])) ps
  unfolding first second in_turn has_kind has_party
  two_asked q r h k zero lt = h
  two_asked q r h k (suc zero) lt = k
  two_asked q r h k (suc (suc i)) lt = record { kind = refl; party = refl }

owned_asked : (agent : ℕ) (ds : List ℕ) → AllAsked agent (of_every agent_owns) (map (owns agent) ds)
unfolding of_every has_kind has_party source
owned_asked agent [] i lt = absurd (omega arith)
owned_asked agent (d ∷ ds) zero lt = record { kind = refl; party = eq-eqb agent agent refl }
owned_asked agent (d ∷ ds) (suc i) lt = owned_asked agent ds i (omega arith)

-- a premise of a mere kind, and a duty
of_kind : {agent : ℕ} (q : Asked) {p : Formula} (g : Formula) → p ≡ g → AsAsked agent q g → AsAsked agent q p
of_kind {agent} q g e = subst (λ (p : Formula). AsAsked agent q p) (sym e)

duty_asked : {agent m : ℕ} {p : Formula} (act f : Formula) → is_duty m ≡ true → p ≡ after m act f → AsAsked agent a_duty p
unfolding has_kind has_party
duty_asked {m} act f d e = of_kind a_duty (after m act f) e (record { kind = ⊎_elim (λ k. rw k) (λ k. rw k) ((duty_is m).0 d); party = refl })

-- Where the test of a rule holds, every premise is as the rule asks, and there is no other instance.
module _ (c : Case) (f : Formula) (a : ℕ) (ps : List Formula) where
  abbrev Explains : Rule → Type 0
  Explains r = r.fits c f a ps ≡ true → AllAsked c.agent r.asks ps × (r.other_instance c f a ps ≡ false)

  by_rule : {r : ℕ} → Numbered r → Explains (rule_at r)
  unfolding rule_at rules rule say refine owner and_left and_right implies_elim duty_by_obligation duty_by_label for_all_intro for_all_elim other_premise other_formula no_instance admits_term has_kind has_party source target
  by_rule rule_0 h = (none_asked c.agent ps, refl)
  by_rule rule_1 h = (none_asked c.agent ps, refl)
  by_rule rule_2 h = (none_asked c.agent ps, refl)
  by_rule rule_3 h = (first_asked c.agent ps says_to_agent (of_kind says_to_agent _ (same_true _ _ h) (record { kind = refl; party = eq-eqb c.agent c.agent refl })), refl)
  by_rule rule_4 h =
      let g = and_true _ _ (and_true _ _ h).0 in
      (two_asked c.agent ps an_implies agent_says (of_kind an_implies _ (same_true _ _ g.0) (record { kind = refl; party = refl })) (of_kind agent_says _ (same_true _ _ g.1) (record { kind = refl; party = eq-eqb c.agent c.agent refl })), refl)
  by_rule rule_5 h =
      let g = and_true (same f (says c.agent (first_part f) (target f)) && not (has data_variable 0 f)) _ h in
      let e : ps ≡ map (owns c.agent) (data_of f) = (same_all_lem _ _).0 g.1 in
      (subst (λ (l : List Formula). AllAsked c.agent (of_every agent_owns) l) (sym e) (owned_asked c.agent (data_of f)), refl)
  by_rule rule_6 h = (none_asked c.agent ps, refl)
  by_rule rule_7 h = (first_asked c.agent ps an_and (of_kind an_and _ (same_true _ _ h) (record { kind = refl; party = refl })), refl)
  by_rule rule_8 h = (first_asked c.agent ps an_and (of_kind an_and _ (same_true _ _ h) (record { kind = refl; party = refl })), refl)
  by_rule rule_9 h = (none_asked c.agent ps, refl)
  by_rule rule_10 h = (first_asked c.agent ps an_implies (of_kind an_implies _ (same_true _ _ h) (record { kind = refl; party = refl })), refl)
  by_rule rule_11 h = (none_asked c.agent ps, refl)
  by_rule rule_12 h = let g = and_true _ _ h in (first_asked c.agent ps a_duty (duty_asked _ _ g.0 (same_true _ _ g.1)), refl)
  by_rule rule_13 h = let g = and_true _ _ h in (first_asked c.agent ps a_duty (duty_asked _ _ g.0 (same_true _ _ g.1)), refl)
  by_rule rule_14 h = let g = and_true (admits_parameter a f) _ h in (none_asked c.agent ps, rw (g.1, and-false))
  by_rule rule_15 h =
      let g = and_true _ _ h in
      let e = same_true _ _ (and_true _ _ g.0).0 in
      (first_asked c.agent ps a_for_all (of_kind a_for_all _ e (record { kind = refl; party = refl })), rw (g.1, and-false))

  no_rule : (r : ℕ) → 16 ≤ r → (rule_at r).fits c f a ps ≡ false
  unfolding rule_at rules rule
  no_rule r le = ap (λ (q : Rule). q.fits c f a ps) (get_or-eq_default rules _ le)

  explains : (r : ℕ) → Explains (rule_at r)
  explains r h = go (ltb r 16) refl
    where
      go : (b : Bool) → ltb r 16 ≡ b → AllAsked c.agent (rule_at r).asks ps × ((rule_at r).other_instance c f a ps ≡ false)
      go true e = by_rule (numbered r (ltb-true r 16 e)) h
      go false e = absurd (not_both h (no_rule r (ltb-false r 16 e)))

-- Where rule 5's test holds, no data variable stands in the formula.
owner_clear : (c : Case) (f : Formula) (a : ℕ) (ps : List Formula) → (rule_at 5).fits c f a ps ≡ true → has data_variable 0 f ≡ false
unfolding rule_at rules rule owner
owner_clear c f a ps h =
    let g = and_true (same f (says c.agent (first_part f) (target f)) && not (has data_variable 0 f)) _ h in
    not-true _ (and_true (same f (says c.agent (first_part f) (target f))) _ g.0).1

-- Check 18 holds just if all of 27, 24, 25, 26 and 18 do.
pub fit_checks_lem : FitsAsBefore
unfolding fit_checks misfit_checks stray_variable wrong_kind wrong_party wrong_instance misfit rule_of
fit_checks_lem c k = (
  λ h. h.1.1.1.1.0,
  λ e.
      let fits = not-false _ e in
      let x = explains c _ _ _ (c.step k).rule fits in
      let clear : stray_variable c k ≡ false =
      never_true _
      (λ h.
      let w = and_true (eqb (c.step k).rule 5) _ h in
      not_both w.1 (owner_clear c _ _ _ (rw (eqb-true (c.step k).rule 5 w.0) at fits))) in
      (clear, (right_kinds c.agent _ _ x.0, (right_parties c.agent _ _ x.0, (x.1, (e, tt))))),
)
