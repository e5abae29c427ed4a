-- What a justification is, said without tests: the sixteen rules, a constructor each, and trees of reasoning over them; and what it is that the duties are kept.
-- A tree is that of a numbered step of the file; the labels it leaves open, the obligations it spends and the steps it consists of are handed on from its premises.
use Rattle.std.specs.Prelude.{ℕ, ◌+◌, ◌-◌, ◌≤◌, ◌<◌, true, false, ◌||◌, ◌≡◌, ◌⊎◌, ◌↔◌, List, [], ◌∷◌, ◌++◌, map, length}
use Rattle.std.proofs.Math.Option.{some}
use Rattle.definition.specs.01-Words.{absent}
use Rattle.definition.specs.02-Ranges.{update}
use Rattle.definition.specs.03-Lists.{Among, Ascending, Disjoint}
use Rattle.definition.specs.12-Terms.{Sort, data_objects, class_of, parameter}
use Rattle.definition.specs.13-Formulas.{Formula, predicate, owns, says, and, for_all, implies, after, communicates, creates, user_action, each_use, once, put}
use Rattle.definition.specs.16-Views.{shows}
use Rattle.definition.specs.17-Case.{Case}
use Rattle.definition.specs.22-Steps.{Labels, premises_of}
use Rattle.definition.specs.41-Occurrences.{Mentions, Closed, MentionsDataVariable, Instance, Policy}

-- Sets of labels: none, two together, one with a label more, one without it.
unfoldable pub no_labels : Labels
no_labels l = false

unfoldable pub both_sets : Labels → Labels → Labels
both_sets L M l = L l || M l

unfoldable pub with_label : Labels → ℕ → Labels
with_label L a = update L a true

unfoldable pub without_label : Labels → ℕ → Labels
without_label L a = update L a false

-- Step k of the file has this rule, formula, argument and premises. "A step's formula is a closed policy."
pub record IsStep (c : Case) (k rule : ℕ) (f : Formula) (a : ℕ) (ps : List ℕ) : Type 0 where
  pub inside : k < c.steps
  pub rule_is : (c.step k).rule ≡ rule
  pub formula_is : (c.step k).formula ≡ f
  pub argument_is : (c.step k).argument ≡ a
  pub premises_are : premises_of c k ≡ ps
  pub policy : Policy f
  pub closed : Closed f

-- Label a, or obligation a, is there, and has this mark and formula.
pub record IsLabel (c : Case) (a mark : ℕ) (f : Formula) : Type 0 where
  pub inside : a < c.labels
  pub mark_is : (c.label a).mark ≡ mark
  pub formula_is : (c.label a).formula ≡ f

pub record IsObligation (c : Case) (a mark : ℕ) (f : Formula) : Type 0 where
  pub inside : a < c.obligations
  pub mark_is : (c.obligation a).mark ≡ mark
  pub formula_is : (c.obligation a).formula ≡ f

-- "Mark 1 (each use) or 2 (once)."
abbrev pub Duty : ℕ → Type 0
Duty m = (m ≡ each_use) ⊎ (m ≡ once)

-- What an agent concludes from an action that it sees.
pub data Concludes (agent : ℕ) : Formula → Formula → Type 0 where
  told : {x : ℕ} {f : Formula} → Concludes agent (communicates x f agent) (says x f agent)
  made : {y : ℕ} → Concludes agent (creates agent y) (owns agent y)

-- What an agent owes for an action.
pub data Owes (agent : ℕ) : Formula → Formula → Type 0 where
  telling : {z : ℕ} {f : Formula} → Owes agent (communicates agent f z) (says agent f z)
  acting : {code y z : ℕ} → Owes agent (user_action code agent y z) (predicate code agent y z)

-- "Uses are split": no each-use label is open on both sides, and no each-use obligation is spent on both.
abbrev pub LabelsSplit : Case → Labels → Labels → Type 0
LabelsSplit c L M = (l : ℕ) → l < c.labels → (c.label l).mark ≡ each_use → L l ≡ true → M l ≡ true → ⊥

abbrev pub ObligationsSplit : Case → List ℕ → List ℕ → Type 0
ObligationsSplit c U W = (o : ℕ) → (c.obligation o).mark ≡ each_use → Among o U → Among o W → ⊥

-- The data objects and data parameters of the formula are those of the list, and it ascends.
pub record DataAre (f : Formula) (ds : List ℕ) : Type 0 where
  pub ascending : Ascending ds
  pub exactly : (d : ℕ) → Among d ds ↔ (Instance data_objects d × Mentions d f)

-- From the formulas fs, which leave the labels L open, rule r with argument a gives f, leaving M open and spending the obligations u: the sixteen rules.
pub data Follows (c : Case) : (r : ℕ) (f : Formula) (a : ℕ) (fs : List Formula) (L M : Labels) (u : List ℕ) → Type 0 where
  -- 0 "suppose label (mark 0)"
  suppose : {a : ℕ} {f : Formula} {L : Labels} → IsLabel c a 0 f → Follows c 0 f a [] L (with_label L a) []
  -- 1 "condition row"
  condition_row : {a : ℕ} {f : Formula} {L : Labels} → a < c.conditions → c.condition a ≡ some f → Follows c 1 f a [] L L []
  -- 2 "seen row: the row's conclusion for the agent"
  seen_row :
      {a : ℕ} {f g : Formula} {L : Labels} → a < c.rows → c.row a ≡ shows g → Concludes c.agent g f → Follows c 2 f a [] L L []
  -- 3 "from "X says F to agent": F"
  say : {x : ℕ} {f : Formula} {L : Labels} → Follows c 3 f absent (says x f c.agent ∷ []) L L []
  -- 4 "refine: from F implies G and "agent says F to B": "agent says G to B""
  refine :
      {b : ℕ} {f g : Formula} {L : Labels} →
      Follows c 4 (says c.agent g b) absent (implies f g ∷ says c.agent f b ∷ []) L L []
  -- 5 "owner: "agent says F to B" from 1 to 16 premises "agent owns D", D strictly ascending and exactly the data objects and data parameters in the formula, actions included;
  -- no data variable in it"
  owner :
      {b : ℕ} {f : Formula} {ds : List ℕ} {L : Labels} →
      1 ≤ length ds → length ds ≤ 16 → DataAre (says c.agent f b) ds → (MentionsDataVariable (says c.agent f b) → ⊥) →
      Follows c 5 (says c.agent f b) absent (map (owns c.agent) ds) L L []
  -- 6 "and"
  and_intro : {f g : Formula} {L : Labels} → Follows c 6 (and f g) absent (f ∷ g ∷ []) L L []
  -- 7 "its left"
  and_left : {f g : Formula} {L : Labels} → Follows c 7 f absent (and f g ∷ []) L L []
  -- 8 "its right"
  and_right : {f g : Formula} {L : Labels} → Follows c 8 g absent (and f g ∷ []) L L []
  -- 9 "from G: F implies G, F the label's, closing the label"
  implies_intro : {a : ℕ} {f g : Formula} {L : Labels} → IsLabel c a 0 f → Follows c 9 (implies f g) a (g ∷ []) L (without_label L a) []
  -- 10 "from F implies G and F: G"
  implies_elim : {f g : Formula} {L : Labels} → Follows c 10 g absent (implies f g ∷ f ∷ []) L L []
  -- 11 "from G: a kind 6 or 7 formula over the label's action and mark (6 with mark 1, 7 with mark 2), closing it"
  duty_intro :
      {a m : ℕ} {act g : Formula} {L : Labels} →
      IsLabel c a m act → Duty m → Follows c 11 (after m act g) a (g ∷ []) L (without_label L a) []
  -- 12 "from such a formula: its policy, by an obligation row of that mark and action"
  duty_by_obligation :
      {o m : ℕ} {act g : Formula} {L : Labels} →
      IsObligation c o m act → Duty m → Follows c 12 g o (after m act g ∷ []) L L (o ∷ [])
  -- 13 "the same by a label"; an each-use label is not open already
  duty_by_label :
      {a m : ℕ} {act g : Formula} {L : Labels} →
      IsLabel c a m act → Duty m → (m ≡ each_use → L a ≡ true → ⊥) → Follows c 13 g a (after m act g ∷ []) L (with_label L a) []
  -- 14 "from the body with a parameter put in: for all; argument the parameter", which stands neither in the formula nor in a label that is open
  for_all_intro :
      {a : ℕ} {σ : Sort} {f : Formula} {L : Labels} →
      class_of a ≡ parameter σ → (Mentions a (for_all σ f) → ⊥) →
      ((l : ℕ) → l < c.labels → L l ≡ true → Mentions a (c.label l).formula → ⊥) →
      Follows c 14 (for_all σ f) a (put σ a 0 f ∷ []) L L []
  -- 15 "from for all: the body with the argument (agent, data or parameter of the sort)"
  for_all_elim : {a : ℕ} {σ : Sort} {f : Formula} {L : Labels} → Instance σ a → Follows c 15 (put σ a 0 f) a (for_all σ f ∷ []) L L []

-- What is handed on from a tree beside its formula: the labels that it leaves open, the obligations that it spends, the steps that it consists of.
pub record HandedOn : Type 0 where
  pub opens : Labels
  pub spent : List ℕ
  pub steps : List ℕ

-- Those of some trees together.
abbrev pub all_opens : List HandedOn → Labels
all_opens [] = no_labels
all_opens (g ∷ gs) = both_sets g.opens (all_opens gs)

abbrev pub all_spent : List HandedOn → List ℕ
all_spent [] = []
all_spent (g ∷ gs) = g.spent ++ all_spent gs

abbrev pub all_steps : List HandedOn → List ℕ
all_steps [] = []
all_steps (g ∷ gs) = g.steps ++ all_steps gs

-- The rules that cite evidence: 1 a condition, 2 a log row, 12 an obligation.
abbrev pub Citing : ℕ → Type 0
Citing r = (r ≡ 1) ⊎ ((r ≡ 2) ⊎ (r ≡ 12))

-- A tree that proves a tautology, in document 02's sense: no step of it cites evidence, and it leaves no label open.
pub record Tautology (c : Case) (g : HandedOn) : Type 0 where
  pub cites_none : (j : ℕ) → Among j g.steps → Citing (c.step j).rule → ⊥
  pub none_open : (l : ℕ) → l < c.labels → g.opens l ≡ true → ⊥

-- There is a first tree, and P holds of it.
abbrev pub OfFirst : (P : HandedOn → Type 0) → List HandedOn → Type 0
OfFirst P [] = ⊥
OfFirst P (g ∷ gs) = P g

-- What rule r asks of its premises' trees, in their order. Document 02, request 3: "Rule 4's first premise and all above it may cite no log row, condition or obligation; it leaves no label open."
pub record TreesAllowed (c : Case) (r : ℕ) (gs : List HandedOn) : Type 0 where
  pub refining : r ≡ 4 → OfFirst (Tautology c) gs

mutual
  -- Step k proves f; it leaves the labels M open, spends the obligations U, and consists of the steps S: it follows by its rule from what its premises prove.
  pub data Proof (c : Case) : (k : ℕ) (f : Formula) (M : Labels) (U S : List ℕ) → Type 0 where
    by_rule :
        {k r a : ℕ} {f : Formula} {fs : List Formula} {gs : List HandedOn} {M : Labels} {ps u : List ℕ} →
        IsStep c k r f a ps → Proofs c k ps fs gs → Follows c r f a fs (all_opens gs) M u → ObligationsSplit c u (all_spent gs) → TreesAllowed c r gs →
        Proof c k f M (u ++ all_spent gs) (k ∷ all_steps gs)

  -- The premises ps of step k prove the formulas fs, in their order; gs is what is handed on from their trees. "Premises are earlier steps, each used once in all"; uses are split among them.
  pub data Proofs (c : Case) : (k : ℕ) (ps : List ℕ) (fs : List Formula) (gs : List HandedOn) → Type 0 where
    no_more : {k : ℕ} → Proofs c k [] [] []
    one_more :
        {k p : ℕ} {f : Formula} {L : Labels} {ps U S : List ℕ} {fs : List Formula} {gs : List HandedOn} →
        p < k → Proof c p f L U S → Proofs c k ps fs gs →
        LabelsSplit c L (all_opens gs) → ObligationsSplit c U (all_spent gs) → Disjoint S (all_steps gs) →
        Proofs c k (p ∷ ps) (f ∷ fs) (record { opens = L; spent = U; steps = S } ∷ gs)

-- "Spans adjoin and cover all premises."
pub record SpansAdjoin (c : Case) : Type 0 where
  pub first : 0 < c.steps → (c.step 0).from ≡ 0
  pub next : (k : ℕ) → k + 1 < c.steps → (c.step (k + 1)).from ≡ (c.step k).from + (c.step k).len
  pub last : (k : ℕ) → k + 1 ≡ c.steps → (c.step k).from + (c.step k).len ≡ c.premises

-- The file's justification of f: its last step proves f, leaves no label open, and consists of all steps.
pub record Account (c : Case) (f : Formula) : Type 0 where
  pub some_step : 0 < c.steps
  pub spans : SpansAdjoin c
  pub opens : Labels
  pub spent : List ℕ
  pub steps : List ℕ
  pub proof : Proof c (c.steps - 1) f opens spent steps
  pub none_open : (l : ℕ) → l < c.labels → opens l ≡ true → ⊥
  pub all_used : (k : ℕ) → k < c.steps → Among k steps

-- The duties' part: definition 6 of source document 000, "each obligation that has expired has been (executed and) logged", as request 6 of document 02 has it.

-- Obligation o was carried out: it names a row, and the agent sees that row with the obligation's action. A number beyond the log shows nothing.
pub record CarriedOut (c : Case) (o : ℕ) : Type 0 where
  pub row : ℕ
  pub named : (c.obligation o).row ≡ some row
  pub seen : c.row row ≡ shows (c.obligation o).formula

-- "An obligation due before the audit hour must name a row seen by the agent that carries its action, cited or not, even where no proof is owed." "No two each-use obligations, expired or not, may name one row."
pub record DutiesKept (c : Case) : Type 0 where
  pub carried_out : (o : ℕ) → o < c.obligations → (c.obligation o).due < c.hour → CarriedOut c o
  pub apart :
      (o p k : ℕ) → o < p → p < c.obligations → (c.obligation o).mark ≡ each_use → (c.obligation p).mark ≡ each_use →
      (c.obligation o).row ≡ some k → (c.obligation p).row ≡ some k → ⊥
