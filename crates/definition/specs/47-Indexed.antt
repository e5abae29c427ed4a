-- Request 5 of document 02: what the index of a log holds, and what building it and checking through it promise. Proved in proofs/IndexHolds, proofs/OrderedLogs and proofs/IndexPromises.
use Rattle.std.specs.Prelude.{ℕ, ◌+◌, ◌*◌, ◌≤◌, ◌<◌, true, false, ◌≡◌, ◌↔◌, List, ◌++◌, length, get_or, take, drop}
use Rattle.definition.specs.03-Lists.{Among, Ascending}
use Rattle.definition.specs.04-Checks.{accepts, refuses, in_order}
use Rattle.definition.specs.15-Records.{Log, log_of, rows_in, observers_in}
use Rattle.definition.specs.16-Views.{seen_in}
use Rattle.definition.specs.18-Admission.{checks_to_log, admission}
use Rattle.definition.specs.19-Rewriting.{strike}
use Rattle.definition.specs.31-Outcome.{Verdict, refused, Outcome, outcome}
use Rattle.definition.specs.35-Index.{index_of, building, outcome_through}
use Rattle.definition.specs.43-Alike.{Alike}
use Rattle.definition.specs.44-Demands.{Entry, HidesRows, AnswersStruck, RefusedAside, Mended}
use Rattle.definition.specs.45-Promises.{Promised}

-- What a table of numbers says, read as an index: how many agents it has; of the i-th its number, and where its list begins and how long it is; and that list.
abbrev pub agents_in : List ℕ → ℕ
agents_in l = get_or l 0 0

abbrev pub agent_at : List ℕ → ℕ → ℕ
agent_at l i = get_or l (1 + 3 * i) 0

abbrev pub offset_at : List ℕ → ℕ → ℕ
offset_at l i = get_or l (2 + 3 * i) 0

abbrev pub length_at : List ℕ → ℕ → ℕ
length_at l i = get_or l (3 + 3 * i) 0

abbrev pub list_at : List ℕ → ℕ → List ℕ
list_at l i = take (length_at l i) (drop (offset_at l i) l)

-- The agent sees this row of the log; and the pair stands in the table.
abbrev pub Sees : Log → (agent row : ℕ) → Type 0
Sees g a k = (k < rows_in g) × (seen_in g a k ≡ true)

abbrev pub HasPair : List ℕ → (agent row : ℕ) → Type 0
HasPair l a k = (i : ℕ) × (i < agents_in l) × (agent_at l i ≡ a) × Among k (list_at l i)

-- The table l is the index of the log g. The agents ascend, so each has one list; each list ascends, so no row stands twice in it, and it has the entries that its head says;
-- the first list begins behind the heads, each other one where the list before it ends, and the last ends the table, or the count does where there is no agent; every agent has some row; and the pairs are those of the log and no others.
pub record IsIndex (g : Log) (l : List ℕ) : Type 0 where
  pub agents_ascend : (i j : ℕ) → i < j → j < agents_in l → agent_at l i < agent_at l j
  pub lists_ascend : (i : ℕ) → i < agents_in l → Ascending (list_at l i)
  pub lists_whole : (i : ℕ) → i < agents_in l → length (list_at l i) ≡ length_at l i
  pub none_empty : (i : ℕ) → i < agents_in l → 0 < length_at l i
  pub first_begins : 0 < agents_in l → offset_at l 0 ≡ 1 + 3 * agents_in l
  pub next_begins : (i : ℕ) → i + 1 < agents_in l → offset_at l (i + 1) ≡ offset_at l i + length_at l i
  pub last_ends : (i : ℕ) → i + 1 ≡ agents_in l → length l ≡ offset_at l i + length_at l i
  pub none_alone : agents_in l ≡ 0 → length l ≡ 1
  pub pairs : (a k : ℕ) → HasPair l a k ↔ Sees g a k

-- "The number of agents that observe any row, then for each .. its number and the offset .. and length of its list, then the lists": of every log, admitted or not, the definition's table is such a one, and no other is.
abbrev pub IndexHolds : Type 0
IndexHolds = (g : Log) (l : List ℕ) → IsIndex g l ↔ (l ≡ index_of g)

-- The list of an agent is exactly the rows that it sees. One that observes none has none.
abbrev pub ListIsSeen : Type 0
ListIsSeen = (g : Log) (i : ℕ) → i < agents_in (index_of g) → (k : ℕ) → Among k (list_at (index_of g) i) ↔ Sees g (agent_at (index_of g) i) k

abbrev pub UnseeingHasNone : Type 0
UnseeingHasNone = (g : Log) (a : ℕ) → ((k : ℕ) → k < rows_in g → seen_in g a k ≡ false) → (i : ℕ) → i < agents_in (index_of g) → agent_at (index_of g) i ≡ a → ⊥

-- So many entries has the index of a file's log that checks 1 to 5 let pass, at most 16,385, and each is a number of 16 bits.
abbrev pub IndexLength : Type 0
IndexLength =
    (s : List ℕ) → in_order (checks_to_log s) ≡ accepts tt →
    (length (index_of (log_of s)) ≡ 1 + 3 * agents_in (index_of (log_of s)) + observers_in (log_of s)) × (length (index_of (log_of s)) ≤ 16385)

abbrev pub EntriesFit : Type 0
EntriesFit = (s : List ℕ) → in_order (checks_to_log s) ≡ accepts tt → (x : ℕ) → Among x (index_of (log_of s)) → x < 65536

-- Building. A refusal is by the first of checks 1 to 5 that fails, or by 29 where they hold and the room has fewer entries than the index; it keeps every entry.
abbrev pub BuildingRefused : Type 0
BuildingRefused =
    (s room : List ℕ) (n p : ℕ) →
    ((building s room).answer ≡ refuses n p → (building s room).room ≡ room)
    × (((building s room).answer ≡ refuses 29 p) ↔ ((in_order (checks_to_log s) ≡ accepts tt) × (p ≡ length (index_of (log_of s))) × (length room < p)))
    × ((n ≡ 29 → ⊥) → ((building s room).answer ≡ refuses n p) ↔ (in_order (checks_to_log s) ≡ refuses n p))

-- Otherwise the room begins with the index, every later entry is as lent, and the answer is how many entries were written.
abbrev pub IndexBuilt : Type 0
IndexBuilt =
    (s room : List ℕ) (n : ℕ) → (building s room).answer ≡ accepts n →
    (n ≡ length (index_of (log_of s)))
    × (n ≤ length room)
    × (take n (building s room).room ≡ index_of (log_of s))
    × (drop n (building s room).room ≡ drop n room)
    × (length (building s room).room ≡ length room)

-- The first entries lent are those of the index due.
abbrev pub AsBuilt : Log → (index : List ℕ) → Type 0
AsBuilt g index = take (length (index_of g)) index ≡ index_of g

-- The check through an index is refused by 30 exactly if checks 1 to 9 hold and the first entries lent are not those; otherwise verdict and room are those of the check without.
abbrev pub ThroughExactly : Type 0
ThroughExactly =
    (s index room : List ℕ) →
    ((p : ℕ) → ((outcome_through s index room).verdict ≡ refused 30 p) ↔ ((admission s ≡ accepts tt) × (AsBuilt (log_of s) index → ⊥) × (p ≡ 0)))
    × (((p : ℕ) → (outcome_through s index room).verdict ≡ refused 30 p → ⊥) → outcome_through s index room ≡ outcome s room)

-- A refusal keeps every entry of the room, by 30 too.
abbrev pub ThroughKeepsRoom : Type 0
ThroughKeepsRoom = (s index room : List ℕ) (n p : ℕ) → (outcome_through s index room).verdict ≡ refused n p → (outcome_through s index room).room ≡ room

-- "Later entries are neither changed nor read."
abbrev pub LaterNotRead : Type 0
LaterNotRead = (s index more room : List ℕ) → length (index_of (log_of s)) ≤ length index → outcome_through s (index ++ more) room ≡ outcome_through s index room

-- What building leaves in the room begins with the index due.
abbrev pub BuiltIsAsBuilt : Type 0
BuiltIsAsBuilt = (s lent : List ℕ) (n : ℕ) → (building s lent).answer ≡ accepts n → AsBuilt (log_of s) (building s lent).room

-- "A check through it, as built from the case's own log, equals the check without it for every agent": for each file with that log, whoever its agent is.
abbrev pub BuiltIsEnough : Type 0
BuiltIsEnough =
    (s t lent room : List ℕ) (n : ℕ) → (building s lent).answer ≡ accepts n → log_of s ≡ log_of t →
    outcome_through t (building s lent).room room ≡ outcome t room

-- Demand 3. A file, the index lent with it, and the room for the answer.
pub record FileIndexRoom : Type 0 where
  pub file : List ℕ
  pub index : List ℕ
  pub room : List ℕ

-- Striking out changes no index, for an index has no actions.
abbrev pub StrikingKeepsIndex : Type 0
StrikingKeepsIndex = (s : List ℕ) → index_of (log_of (strike s)) ≡ index_of (log_of s)

-- "So the hidden-row rule holds where each run has its own": alike are two files that are alike to the agent, each with its own index as built.
abbrev pub checking_through : Entry FileIndexRoom Outcome
checking_through =
    record {
      answer = λ i. outcome_through i.file i.index i.room;
      is_alike = λ i j. Alike i.file j.file × AsBuilt (log_of i.file) i.index × AsBuilt (log_of j.file) j.index × (i.room ≡ j.room);
      is_aside = λ i. RefusedAside (λ n p. (outcome_through i.file i.index i.room).verdict ≡ refused n p);
      strike_out = λ i. record { file = strike i.file; index = i.index; room = i.room };
      is_mended = λ i. (p : ℕ) × ((outcome_through i.file i.index i.room).verdict ≡ refused 5 p) × Mended i.file p;
    }

abbrev pub ThroughShowsNoRow : Type 0
ThroughShowsNoRow = HidesRows checking_through × AnswersStruck checking_through

-- What the check through an index promises of its answer and of every entry of the room.
abbrev pub AnsweredThrough : {A : Type 0} (meant : Verdict → A) (s index room : List ℕ) (answer : A) (after : List ℕ) → Type 0
AnsweredThrough {A} meant s index room answer after =
    Promised {B = A × List ℕ} checking_through (λ o. (meant o.verdict, o.room)) (record { file = s; index = index; room = room }) (answer, after)
