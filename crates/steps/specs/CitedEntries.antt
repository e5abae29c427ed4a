-- What a step cites, as the code asks for it and marks it.
use Rattle.std.specs.Prelude.{ℕ, ◌<◌, Bool, true, ◌≡◌, List, length}
use Rattle.definition.specs.11-Layout.{obligation_part, label_part, count}
use Rattle.definition.specs.21-Rules.{Names, nothing, a_label, a_condition, a_row, an_obligation, a_term, Effect, keeps, adds, closes}
use Rattle.definition.specs.22-Steps.{is_a_row, is_an_obligation, is_adding, mark_if}
use Rattle.step_shape.specs.RuleLines.{RuleShape}
use Rattle.tables.specs.Sets.{marks}

-- What a step cites is there: an obligation, a row, or the label that it adds or closes.
abbrev pub ObligationThere : List ℕ → Names → ℕ → Type 0
ObligationThere s n a = is_an_obligation n ≡ true → a < count s obligation_part

abbrev pub LabelThere : Effect → ℕ → Type 0
LabelThere keeps a = Unit {0}
LabelThere adds a = a < 32
LabelThere closes a = a < 32

abbrev pub CitedThere : Names → ℕ → Type 0
CitedThere nothing a = Unit {0}
CitedThere a_label a = Unit {0}
CitedThere a_condition a = Unit {0}
CitedThere a_row a = a < 1024
CitedThere an_obligation a = a < 64
CitedThere a_term a = Unit {0}

pub record EntryThere (s : List ℕ) (r : RuleShape) (a : ℕ) : Type 0 where
  pub obligation : ObligationThere s r.names a
  pub label : LabelThere r.effect a
  pub added : is_adding r.effect ≡ true → a < count s label_part

-- The two tables with the entry that the step cites.
pub record CitedMarked (n : Names) (a : ℕ) (c d c' d' : List Bool) : Type 0 where
  pub cited_long : length c' ≡ 1024
  pub discharged_long : length d' ≡ 64
  pub cited : marks c' ≡ mark_if (is_a_row n) (marks c) a
  pub discharged : marks d' ≡ mark_if (is_an_obligation n) (marks d) a
