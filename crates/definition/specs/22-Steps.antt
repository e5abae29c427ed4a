-- One step of a justification: checks 12 to 19 and 24 to 28 in their order, and what the step then changes; and the checks of all steps.
use Rattle.std.specs.Prelude.{ℕ, zero, suc, ◌+◌, Bool, true, false, not, ◌&&◌, ◌||◌, List, [], ◌∷◌, ◌++◌, map, eqb, ltb}
use Rattle.std.proofs.Math.Option.{Option, none, some}
use Rattle.definition.specs.01-Words.{absent}
use Rattle.definition.specs.02-Ranges.{any, listed, update}
use Rattle.definition.specs.04-Checks.{Check, single}
use Rattle.definition.specs.13-Formulas.{Formula, each_use, is_policy, closed, this_term, data_variable, has}
use Rattle.definition.specs.15-Records.{bad_span}
use Rattle.definition.specs.16-Views.{RowView, hidden, struck, shows}
use Rattle.definition.specs.17-Case.{Case}
use Rattle.definition.specs.21-Rules.{Rule, Names, nothing, a_label, a_condition, a_row, an_obligation, a_term, Effect, keeps, adds, closes, is_other_kind, is_other_party, any_faulty, rule_at}

-- A set of labels: is this label in it?
abbrev pub Labels : Type 0
Labels = ℕ → Bool

-- What a step rests on: the labels that it leaves open, and whether it or a step above it cites evidence, that is, a log row, condition or obligation.
pub record Rests : Type 0 where
  pub opens : Labels
  pub cites : Bool

-- What a step leaves behind: what it rests on, and whether a later step has it as a premise.
pub record Left : Type 0 where
  pub rests : Rests
  pub used : Bool

-- What the steps so far have done: what each leaves behind, the log rows cited, the obligations discharged.
pub record State : Type 0 where
  pub left : ℕ → Left
  pub cited : ℕ → Bool
  pub discharged : ℕ → Bool

-- What step k rests on, the labels that it leaves open, and whether it is used.
abbrev pub rests_in : State → ℕ → Rests
rests_in s k = (s.left k).rests

abbrev pub opens_in : State → ℕ → Labels
opens_in s k = (s.left k).rests.opens

abbrev pub used_in : State → ℕ → Bool
used_in s k = (s.left k).used

-- What the steps leave behind, with `rests` replaced, and with `used` replaced.
abbrev pub with_rests : (ℕ → Left) → (ℕ → Rests) → ℕ → Left
with_rests left rests j = record { rests = rests j; used = (left j).used }

abbrev pub with_used : (ℕ → Left) → (ℕ → Bool) → ℕ → Left
with_used left used j = record { rests = (left j).rests; used = used j }

-- Of a step that rests on nothing, and of two together.
abbrev pub no_rests : Rests
no_rests = record { opens = λ l. false; cites = false }

abbrev pub both_rests : Rests → Rests → Rests
both_rests r q = record { opens = λ l. r.opens l || q.opens l; cites = r.cites || q.cites }

unfoldable pub start_state : State
start_state = record { left = λ k. record { rests = no_rests; used = false }; cited = λ k. false; discharged = λ k. false }

unfoldable pub rule_of : Case → ℕ → Rule
rule_of c k = rule_at (c.step k).rule

-- The steps that step k has as premises, "in the order given".
unfoldable pub premises_of : Case → ℕ → List ℕ
premises_of c k = listed c.premise (c.step k).len (c.step k).from

unfoldable pub must_be_absent : Names → Bool
must_be_absent nothing = true
must_be_absent a_label = false
must_be_absent a_condition = false
must_be_absent a_row = false
must_be_absent an_obligation = false
must_be_absent a_term = false

-- Check 12: "rule, formula, span, premise count, or argument not absent where it must be". "A step's formula is a closed policy."
unfoldable pub misshapen : Case → ℕ → Bool
misshapen c k =
    ltb 15 (c.step k).rule
    || not (is_policy (c.step k).formula && closed (c.step k).formula)
    || bad_span (λ j. (c.step j).from) (λ j. (c.step j).len) c.steps c.premises k
    || ltb (c.step k).len (rule_of c k).least
    || ltb (rule_of c k).most (c.step k).len
    || (must_be_absent (rule_of c k).names && not (eqb (c.step k).argument absent))

-- Check 13: "premise not earlier, or used before", also by the same step. "Premises are earlier steps, each used once in all."
unfoldable pub bad_premises : (ℕ → Bool) → ℕ → List ℕ → Bool
bad_premises used k [] = false
bad_premises used k (p ∷ ps) = not (ltb p k) || used p || bad_premises (update used p true) k ps

unfoldable pub is_none : Option Formula → Bool
is_none none = true
is_none (some f) = false

-- Check 14: "needed argument absent, or cited entry absent". Of the entries, this tests a condition's; a log row's comes below, after check 16.
unfoldable pub cites_absent : Case → Names → ℕ → Bool
cites_absent c nothing a = false
cites_absent c a_label a = eqb a absent
cites_absent c a_condition a = eqb a absent || (ltb a c.conditions && is_none (c.condition a))
cites_absent c a_row a = eqb a absent
cites_absent c an_obligation a = eqb a absent
cites_absent c a_term a = eqb a absent

-- Check 15: "no such label, condition, log row or obligation".
unfoldable pub cites_nothing : Case → Names → ℕ → Bool
cites_nothing c nothing a = false
cites_nothing c a_label a = not (ltb a c.labels)
cites_nothing c a_condition a = not (ltb a c.conditions)
cites_nothing c a_row a = not (ltb a c.rows)
cites_nothing c an_obligation a = not (ltb a c.obligations)
cites_nothing c a_term a = false

unfoldable pub is_a_row : Names → Bool
is_a_row nothing = false
is_a_row a_label = false
is_a_row a_condition = false
is_a_row a_row = true
is_a_row an_obligation = false
is_a_row a_term = false

unfoldable pub is_an_obligation : Names → Bool
is_an_obligation nothing = false
is_an_obligation a_label = false
is_an_obligation a_condition = false
is_an_obligation a_row = false
is_an_obligation an_obligation = true
is_an_obligation a_term = false

-- Evidence: "log row, condition or obligation" (document 02, request 3).
unfoldable pub is_evidence : Names → Bool
is_evidence nothing = false
is_evidence a_label = false
is_evidence a_condition = true
is_evidence a_row = true
is_evidence an_obligation = true
is_evidence a_term = false

unfoldable pub is_hidden : RowView → Bool
is_hidden hidden = true
is_hidden struck = false
is_hidden (shows f) = false

unfoldable pub is_struck : RowView → Bool
is_struck hidden = false
is_struck struck = true
is_struck (shows f) = false

-- Check 16: "agent not among the row's observers".
unfoldable pub cites_hidden : Case → Names → ℕ → Bool
cites_hidden c n a = is_a_row n && is_hidden (c.row a)

-- Check 14 of a log row, "cited entry absent". "One exception: at a seen step, 16 comes before 14 for a struck row."
unfoldable pub cites_struck : Case → Names → ℕ → Bool
cites_struck c n a = is_a_row n && is_struck (c.row a)

-- "That of its premises together": the labels that one of the steps leaves open.
unfoldable pub joined : (ℕ → Labels) → List ℕ → Labels
joined opens [] l = false
joined opens (p ∷ ps) l = opens p l || joined opens ps l

-- Does one of the steps, or a step above it, cite evidence?
unfoldable pub some_cites : (ℕ → Bool) → List ℕ → Bool
some_cites cites [] = false
some_cites cites (p ∷ ps) = cites p || some_cites cites ps

-- What the steps rest on together.
abbrev pub together : (ℕ → Rests) → List ℕ → Rests
together rests ps = record { opens = joined (λ p. (rests p).opens) ps; cites = some_cites (λ p. (rests p).cites) ps }

unfoldable pub is_each_use : Case → ℕ → Bool
is_each_use c l = eqb (c.label l).mark each_use

-- Do two of the steps leave the same each-use label open?
unfoldable pub share : Case → (ℕ → Labels) → List ℕ → Bool
share c opens [] = false
share c opens (p ∷ ps) = any (λ l. is_each_use c l && opens p l && joined opens ps l) c.labels 0 || share c opens ps

unfoldable pub is_adding : Effect → Bool
is_adding keeps = false
is_adding adds = true
is_adding closes = false

-- Check 17: "each-use obligation cited before; each-use label open in two premises, or already in rule 13's".
unfoldable pub used_twice : Case → State → Rule → ℕ → List ℕ → Bool
used_twice c s r a ps =
    (is_an_obligation r.names && eqb (c.obligation a).mark each_use && s.discharged a)
    || share c (opens_in s) ps
    || (is_adding r.effect && is_each_use c a && joined (opens_in s) ps a)

-- Document 02, request 2. Check 27: "data variable under an owner step". "Under" is in the step's own formula as a whole.
unfoldable pub stray_variable : Case → ℕ → Bool
stray_variable c k = eqb (c.step k).rule 5 && has data_variable 0 (c.step k).formula

-- The formulas of the premises of step k.
unfoldable pub premise_formulas : Case → ℕ → List Formula
premise_formulas c k = map (λ p. (c.step p).formula) (premises_of c k)

-- Document 02, request 1. Check 24: "wrong premise kind".
unfoldable pub wrong_kind : Case → ℕ → Bool
wrong_kind c k = any_faulty is_other_kind (rule_of c k).asks (premise_formulas c k)

-- Check 25: "wrong party".
unfoldable pub wrong_party : Case → ℕ → Bool
wrong_party c k = any_faulty (is_other_party c.agent) (rule_of c k).asks (premise_formulas c k)

-- Check 26: "wrong instance".
unfoldable pub wrong_instance : Case → ℕ → Bool
wrong_instance c k = (rule_of c k).other_instance c (c.step k).formula (c.step k).argument (premise_formulas c k)

-- Check 18: "rule does not fit otherwise". The checks before it tell some of the faults by other numbers.
unfoldable pub misfit : Case → ℕ → Bool
misfit c k = not ((rule_of c k).fits c (c.step k).formula (c.step k).argument (premise_formulas c k))

-- Check 19: "parameter in rule 14's formula or its premise's open labels".
unfoldable pub not_fresh : Case → State → ℕ → Bool
not_fresh c s k =
    let a = (c.step k).argument in
    let above = joined (opens_in s) (premises_of c k) in
    eqb (c.step k).rule 14
    && (has (this_term a) 0 (c.step k).formula
    || any (λ l. above l && has (this_term a) 0 (c.label l).formula) c.labels 0)

-- Document 02, request 3. Check 28: "Rule 4's first premise and all above it may cite no log row, condition or obligation; it leaves no label open."
-- Does the first of the steps, or a step above it, cite evidence, or does it leave a label open?
unfoldable pub first_rests : Case → (ℕ → Rests) → List ℕ → Bool
first_rests c rests [] = false
first_rests c rests (p ∷ ps) = (rests p).cites || any (rests p).opens c.labels 0

unfoldable pub no_tautology : Case → (ℕ → Rests) → ℕ → Bool
no_tautology c rests k = eqb (c.step k).rule 4 && first_rests c rests (premises_of c k)

-- The labels that a step leaves open, from those that its premises leave open together. "Closing a label not open is allowed."
unfoldable pub leaves : Effect → ℕ → Labels → Labels
leaves keeps a above = above
leaves adds a above = update above a true
leaves closes a above = update above a false

-- What a step rests on, from what its premises rest on together.
abbrev pub rests_on : Names → Effect → ℕ → Rests → Rests
rests_on n e a above = record { opens = leaves e a above.opens; cites = is_evidence n || above.cites }

unfoldable pub mark_all : (ℕ → Bool) → List ℕ → ℕ → Bool
mark_all used [] = used
mark_all used (p ∷ ps) = mark_all (update used p true) ps

unfoldable pub mark_if : Bool → (ℕ → Bool) → ℕ → ℕ → Bool
mark_if true marks a = update marks a true
mark_if false marks a = marks

-- The state after step k.
unfoldable pub next : Case → ℕ → State → State
next c k s =
    let r = rule_of c k in
    let a = (c.step k).argument in
    let ps = premises_of c k in
    record {
      left = with_rests (with_used s.left (mark_all (used_in s) ps)) (update (rests_in s) k (rests_on r.names r.effect a (together (rests_in s) ps)));
      cited = mark_if (is_a_row r.names) s.cited a;
      discharged = mark_if (is_an_obligation r.names) s.discharged a;
    }

-- Checks 14 to 16 of what a step cites, with the one exception. k is the step.
unfoldable pub citation_checks : Case → Names → (a k : ℕ) → List Check
citation_checks c n a k =
    single 14 k (cites_absent c n a)
    ∷ single 15 k (cites_nothing c n a)
    ∷ single 16 k (cites_hidden c n a)
    ∷ single 14 k (cites_struck c n a)
    ∷ []

-- 24, 25 and 26 are "tried in that order just before 18" (document 02).
unfoldable pub misfit_checks : Case → ℕ → List Check
misfit_checks c k =
    single 24 k (wrong_kind c k)
    ∷ single 25 k (wrong_party c k)
    ∷ single 26 k (wrong_instance c k)
    ∷ single 18 k (misfit c k)
    ∷ []

-- Whether step k fits its rule. 27, "just before 24", has a row of the book as its place, every other check of a step has the step.
unfoldable pub fit_checks : Case → ℕ → List Check
fit_checks c k = single 27 (c.step k).stray (stray_variable c k) ∷ misfit_checks c k

-- Checks 12 to 16 of step k: it is well made, and all that it names is there.
unfoldable pub shape_checks : Case → ℕ → State → List Check
shape_checks c k s =
    single 12 k (misshapen c k)
    ∷ single 13 k (bad_premises (used_in s) k (premises_of c k))
    ∷ citation_checks c (rule_of c k).names (c.step k).argument k

-- Checks 19 and 28, which look at what the premises of step k rest on. 28 comes "after 19".
unfoldable pub above_checks : Case → ℕ → State → List Check
above_checks c k s = single 19 k (not_fresh c s k) ∷ single 28 k (no_tautology c (rests_in s) k) ∷ []

-- Check 17; 27, 24, 25, 26 and 18; 19 and 28: step k uses what it names as its rule allows.
unfoldable pub use_checks : Case → ℕ → State → List Check
use_checks c k s =
    single 17 k (used_twice c s (rule_of c k) (c.step k).argument (premises_of c k))
    ∷ fit_checks c k
    ++ above_checks c k s

-- Step k "through 12 to 19 by number", 27 and 24 to 26 put in before 18 and 28 behind 19, in the state that the steps before it have left.
unfoldable pub step_checks : Case → ℕ → State → List Check
step_checks c k s = shape_checks c k s ++ use_checks c k s

-- The checks of the steps from k on in order, `left` of them; s is the state before them.
unfoldable pub checks_of_steps : Case → (left k : ℕ) → State → List Check
checks_of_steps c zero k s = []
checks_of_steps c (suc left) k s = step_checks c k s ++ checks_of_steps c left (k + 1) (next c k s)

-- The state that the first k steps leave.
unfoldable pub state_at : Case → ℕ → State
state_at c zero = start_state
state_at c (suc k) = next c k (state_at c k)

-- What an evaluation unfolds of this file.
unfoldable pub evaluated_steps : Unit {0}
unfolding start_state rule_of premises_of must_be_absent misshapen bad_premises is_none cites_absent cites_nothing is_a_row is_an_obligation is_evidence is_hidden is_struck cites_hidden cites_struck joined some_cites is_each_use share is_adding used_twice stray_variable premise_formulas wrong_kind wrong_party wrong_instance misfit not_fresh first_rests no_tautology leaves mark_all mark_if next citation_checks misfit_checks fit_checks shape_checks above_checks use_checks step_checks checks_of_steps state_at
evaluated_steps = tt
