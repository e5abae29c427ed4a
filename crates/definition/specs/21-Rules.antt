-- The sixteen rules, and what an action owes. A rule's test is of a step's own formula f, its argument a and the formulas ps of its premises, in the order given.
-- Where a rule has an F, a G or a B that stands for any formula or agent, it can only be a certain part of a premise or of f: that part is named, and then whole formulas are compared.
use Rattle.std.specs.Prelude.{ℕ, Bool, true, false, cond, not, ◌&&◌, ◌||◌, List, [], ◌∷◌, map, length, get_or, eqb}
use Rattle.std.proofs.Math.Option.{Option, none, some}
use Rattle.definition.specs.02-Ranges.{any}
use Rattle.definition.specs.12-Terms.{class_of, is_parameter, is_instance}
use Rattle.definition.specs.13-Formulas.{Formula, predicate, owns, says, and, for_all, implies, after, communicates, creates, user_action, no_formula, same, kind_of, data_variable, has, put, data_of, first_part, second_part, source, target, sort_of}
use Rattle.definition.specs.15-Records.{is_duty}
use Rattle.definition.specs.16-Views.{RowView, hidden, struck, shows}
use Rattle.definition.specs.17-Case.{Case}

abbrev pub StepTest : Type 0
StepTest = Case → (f : Formula) (a : ℕ) (ps : List Formula) → Bool

unfoldable pub first : List Formula → Formula
first ps = get_or ps 0 no_formula

unfoldable pub second : List Formula → Formula
second ps = get_or ps 1 no_formula

-- Is there a formula, and is it f?
unfoldable pub is_that : Formula → Option Formula → Bool
is_that f none = false
is_that f (some g) = same f g

unfoldable pub same_all : List Formula → List Formula → Bool
same_all [] [] = true
same_all [] (g ∷ gs) = false
same_all (f ∷ fs) [] = false
same_all (f ∷ fs) (g ∷ gs) = same f g && same_all fs gs

-- The conclusion that an agent may draw from an action it sees: "communicate X, Y, Z gives Z "X says Y to Z", creates gives X "X owns Y"; others give nothing."
unfoldable pub conclusion : ℕ → Formula → Option Formula
conclusion agent (communicates x f z) = cond (eqb z agent) (some (says x f z)) none
conclusion agent (creates x y) = cond (eqb x agent) (some (owns x y)) none
conclusion agent (user_action c x y z) = none
conclusion agent (predicate c x y z) = none
conclusion agent (owns x y) = none
conclusion agent (says x f z) = none
conclusion agent (and f g) = none
conclusion agent (for_all σ f) = none
conclusion agent (implies f g) = none
conclusion agent (after m a f) = none
conclusion agent no_formula = none

unfoldable pub row_conclusion : ℕ → RowView → Option Formula
row_conclusion agent hidden = none
row_conclusion agent struck = none
row_conclusion agent (shows a) = conclusion agent a

-- The body of a for-all g with the argument put in.
unfoldable pub body_with : ℕ → Formula → Formula
body_with a g = put (sort_of g) a 0 (first_part g)

-- Is g a for-all, and the argument a parameter of its sort? The same with an agent, data or parameter of the sort.
unfoldable pub admits_parameter : ℕ → Formula → Bool
admits_parameter a g = same g (for_all (sort_of g) (first_part g)) && is_parameter (sort_of g) (class_of a)

unfoldable pub admits_term : ℕ → Formula → Bool
admits_term a g = same g (for_all (sort_of g) (first_part g)) && is_instance (sort_of g) (class_of a)

-- 0 "suppose label (mark 0)".
unfoldable pub suppose : StepTest
suppose c f a ps = eqb (c.label a).mark 0 && same f (c.label a).formula

-- 1 "condition row".
unfoldable pub condition_row : StepTest
condition_row c f a ps = is_that f (c.condition a)

-- 2 "seen row: the row's conclusion for the agent". "Where a row has no conclusion for this agent, the step does not fit."
unfoldable pub seen_row : StepTest
seen_row c f a ps = is_that f (row_conclusion c.agent (c.row a))

-- 3 "from "X says F to agent": F".
unfoldable pub say : StepTest
say c f a ps =
    let x = source (first ps) in
    same (first ps) (says x f c.agent)

-- 4 "refine: from F implies G and "agent says F to B": "agent says G to B"".
unfoldable pub refine : StepTest
refine c f a ps =
    let F = first_part (first ps) in
    let G = second_part (first ps) in
    let B = target f in
    same (first ps) (implies F G) && same (second ps) (says c.agent F B) && same f (says c.agent G B)

-- 5 "owner: "agent says F to B" from 1 to 16 premises "agent owns D", D strictly ascending and exactly the data objects and data parameters in the formula, actions included;
-- no data variable in it".
unfoldable pub owner : StepTest
owner c f a ps =
    let F = first_part f in
    let B = target f in
    same f (says c.agent F B) && not (has data_variable 0 f) && same_all ps (map (owns c.agent) (data_of f))

-- 6 "and".
unfoldable pub and_intro : StepTest
and_intro c f a ps = same f (and (first ps) (second ps))

-- 7 "its left".
unfoldable pub and_left : StepTest
and_left c f a ps =
    let G = second_part (first ps) in
    same (first ps) (and f G)

-- 8 "its right".
unfoldable pub and_right : StepTest
and_right c f a ps =
    let F = first_part (first ps) in
    same (first ps) (and F f)

-- 9 "from G: F implies G, F the label's, closing the label".
unfoldable pub implies_intro : StepTest
implies_intro c f a ps = eqb (c.label a).mark 0 && same f (implies (c.label a).formula (first ps))

-- 10 "from F implies G and F: G".
unfoldable pub implies_elim : StepTest
implies_elim c f a ps = same (first ps) (implies (second ps) f)

-- 11 "from G: a kind 6 or 7 formula over the label's action and mark (6 with mark 1, 7 with mark 2), closing it".
unfoldable pub duty_intro : StepTest
duty_intro c f a ps = is_duty (c.label a).mark && same f (after (c.label a).mark (c.label a).formula (first ps))

-- 12 "from such a formula: its policy, by an obligation row of that mark and action".
unfoldable pub duty_by_obligation : StepTest
duty_by_obligation c f a ps = is_duty (c.obligation a).mark && same (first ps) (after (c.obligation a).mark (c.obligation a).formula f)

-- 13 "the same by a label".
unfoldable pub duty_by_label : StepTest
duty_by_label c f a ps = is_duty (c.label a).mark && same (first ps) (after (c.label a).mark (c.label a).formula f)

-- 14 "from the body with a parameter put in: for all; argument the parameter".
unfoldable pub for_all_intro : StepTest
for_all_intro c f a ps = admits_parameter a f && same (first ps) (body_with a f)

-- 15 "from for all: the body with the argument (agent, data or parameter of the sort)".
unfoldable pub for_all_elim : StepTest
for_all_elim c f a ps = admits_term a (first ps) && same f (body_with a (first ps))

-- Document 02, request 1, wants to know why a step does not fit. So a rule also says what it asks of its premises, and 14 and 15 when the instance is another.

-- What is asked of a premise: "X says F to agent", "agent says F to B" and "agent owns D", of which the agent is "target, source or owner", or just a kind.
pub data Asked : Type 0 where
  anything : Asked
  says_to_agent : Asked
  agent_says : Asked
  agent_owns : Asked
  an_and : Asked
  a_for_all : Asked
  an_implies : Asked
  a_duty : Asked

-- Does the premise have the kind? For a duty, rules 12 and 13 "take 6 or 7".
unfoldable pub has_kind : Asked → Formula → Bool
has_kind anything p = true
has_kind says_to_agent p = eqb (kind_of p) 2
has_kind agent_says p = eqb (kind_of p) 2
has_kind agent_owns p = eqb (kind_of p) 1
has_kind an_and p = eqb (kind_of p) 3
has_kind a_for_all p = eqb (kind_of p) 4
has_kind an_implies p = eqb (kind_of p) 5
has_kind a_duty p = eqb (kind_of p) 6 || eqb (kind_of p) 7

-- Is the agent the party that is asked, in a premise of that kind?
unfoldable pub has_party : (agent : ℕ) → Asked → Formula → Bool
has_party agent anything p = true
has_party agent says_to_agent p = eqb (target p) agent
has_party agent agent_says p = eqb (source p) agent
has_party agent agent_owns p = eqb (source p) agent
has_party agent an_and p = true
has_party agent a_for_all p = true
has_party agent an_implies p = true
has_party agent a_duty p = true

-- The two faults of a premise: it is of another kind; it is of that kind, and of another party.
unfoldable pub is_other_kind : Asked → Formula → Bool
is_other_kind q p = not (has_kind q p)

unfoldable pub is_other_party : (agent : ℕ) → Asked → Formula → Bool
is_other_party agent q p = has_kind q p && not (has_party agent q p)

-- What a rule asks of premise i, from 0.
abbrev pub Asks : Type 0
Asks = ℕ → Asked

-- Of the first premises what the list has, of any further one nothing.
unfoldable pub in_turn : List Asked → Asks
in_turn qs i = get_or qs i anything

-- Of every premise the same.
unfoldable pub of_every : Asked → Asks
of_every q i = q

-- Has one of the premises the fault?
unfoldable pub any_faulty : (Asked → Formula → Bool) → Asks → List Formula → Bool
any_faulty fault asks ps = any (λ i. fault (asks i) (get_or ps i no_formula)) (length ps) 0

-- The argument is one that the rule admits, and yet it "does not turn into the instance" the body: of rule 14's own formula into its premise, of rule 15's premise into its formula.
-- The other rules have no instance.
unfoldable pub other_premise : StepTest
other_premise c f a ps = admits_parameter a f && not (same (first ps) (body_with a f))

unfoldable pub other_formula : StepTest
other_formula c f a ps = admits_term a (first ps) && not (same f (body_with a (first ps)))

unfoldable pub no_instance : StepTest
no_instance c f a ps = false

-- What a rule's argument names. "Rules 3 to 8 and 10 have the argument absent."
pub data Names : Type 0 where
  nothing : Names
  a_label : Names
  a_condition : Names
  a_row : Names
  an_obligation : Names
  a_term : Names

-- What a rule does to the labels that its premises leave open: "its own added (0, 13) or closed (9, 11)".
pub data Effect : Type 0 where
  keeps : Effect
  adds : Effect
  closes : Effect

pub record Rule : Type 0 where
  pub names : Names
  pub least : ℕ
  pub most : ℕ
  pub effect : Effect
  pub asks : Asks
  pub other_instance : StepTest
  pub fits : StepTest

unfoldable pub rule : Names → (least most : ℕ) → Effect → Asks → (other_instance fits : StepTest) → Rule
rule n a b e q o t = record { names = n; least = a; most = b; effect = e; asks = q; other_instance = o; fits = t }

-- The rules 0 to 15 in their order: what the argument names, least and most premises, effect on the open labels; what is asked of the premises, when the instance is another; the test.
unfoldable pub rules : List Rule
rules =
    rule a_label 0 0 adds (in_turn []) no_instance suppose
    ∷ rule a_condition 0 0 keeps (in_turn []) no_instance condition_row
    ∷ rule a_row 0 0 keeps (in_turn []) no_instance seen_row
    ∷ rule nothing 1 1 keeps (in_turn (says_to_agent ∷ [])) no_instance say
    ∷ rule nothing 2 2 keeps (in_turn (an_implies ∷ agent_says ∷ [])) no_instance refine
    ∷ rule nothing 1 16 keeps (of_every agent_owns) no_instance owner
    ∷ rule nothing 2 2 keeps (in_turn []) no_instance and_intro
    ∷ rule nothing 1 1 keeps (in_turn (an_and ∷ [])) no_instance and_left
    ∷ rule nothing 1 1 keeps (in_turn (an_and ∷ [])) no_instance and_right
    ∷ rule a_label 1 1 closes (in_turn []) no_instance implies_intro
    ∷ rule nothing 2 2 keeps (in_turn (an_implies ∷ [])) no_instance implies_elim
    ∷ rule a_label 1 1 closes (in_turn []) no_instance duty_intro
    ∷ rule an_obligation 1 1 keeps (in_turn (a_duty ∷ [])) no_instance duty_by_obligation
    ∷ rule a_label 1 1 adds (in_turn (a_duty ∷ [])) no_instance duty_by_label
    ∷ rule a_term 1 1 keeps (in_turn []) other_premise for_all_intro
    ∷ rule a_term 1 1 keeps (in_turn (a_for_all ∷ [])) other_formula for_all_elim
    ∷ []

-- Rule n; for a number above 15, of which check 12 lets none pass, one that nothing fits.
unfoldable pub rule_at : ℕ → Rule
rule_at n = get_or rules n (rule nothing 0 0 keeps (in_turn []) no_instance (λ c f a ps. false))

-- "Owed: communicate by the agent owes "X says Y to Z"; a user action whose X is the agent owes the predicate of the same code and terms; all else owes nothing."
unfoldable pub owed : ℕ → Formula → Option Formula
owed agent (communicates x f z) = cond (eqb x agent) (some (says x f z)) none
owed agent (user_action c x y z) = cond (eqb x agent) (some (predicate c x y z)) none
owed agent (creates x y) = none
owed agent (predicate c x y z) = none
owed agent (owns x y) = none
owed agent (says x f z) = none
owed agent (and f g) = none
owed agent (for_all σ f) = none
owed agent (implies f g) = none
owed agent (after m a f) = none
owed agent no_formula = none

-- What an evaluation unfolds of this file.
unfoldable pub evaluated_rules : Unit {0}
unfolding first second is_that same_all conclusion row_conclusion body_with admits_parameter admits_term suppose condition_row seen_row say refine owner and_intro and_left and_right implies_intro implies_elim duty_intro duty_by_obligation duty_by_label for_all_intro for_all_elim has_kind has_party is_other_kind is_other_party in_turn of_every any_faulty other_premise other_formula no_instance rule rules rule_at owed
evaluated_rules = tt
