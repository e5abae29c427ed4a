-- The rows of an agent's own list marked in a table in which every row was hidden: the table is that of what the agent sees. Assumes nothing.
use Prim.Native.Nat.{ℕ, ◌+◌, ◌*◌, ◌-◌, ◌≤◌, ◌<◌}
use mathlib.Core.Bool.{Bool, true, false}
use mathlib.Core.Path.{◌≡◌, refl, sym, ◌∙◌}
use mathlib.Core.List.{List}
use native.Mathlib.Omega.{arith}
use lib.ListN.{length, get_or}
use Rattle.case_file.specs.Seen.{view_code, SeenUpTo}
use Rattle.definition.proofs.IndexHolds.{list_sees}
use Rattle.definition.proofs.ListLaws.{at_among, among_at}
use Rattle.definition.proofs.OrderedIndex.{sight_is, index_length, index_count, index_head, index_list, list_within, of_some_agent, seer_observes}
use Rattle.definition.proofs.Tests.{not_both}
use Rattle.definition.specs.03-Lists.{begins}
use Rattle.definition.specs.12-Terms.{agents_end}
use Rattle.definition.specs.15-Records.{Log, rows_in, row_action}
use Rattle.definition.specs.16-Views.{seen_in}
use Rattle.definition.specs.35-Index.{index_of, rows_seen}
use Rattle.definition.specs.48-Places.{OrderedLog, counts_of, place_of, start_of}
use Rattle.observer_index.proofs.IndexTables.{begin_all}
use Rattle.observer_index.proofs.RowTurns.{index_fits}
use Rattle.observer_index.specs.OwnList.{Hides, Listed, Marked}

-- A table that begins with the index of a log, by position.
module _ (g : Log) (o : OrderedLog g) (index : List ℕ) (same : begins (index_of g) index ≡ true) where
  at : (p : ℕ) → p < length (index_of g) → get_or index p 0 ≡ get_or (index_of g) p 0
  at = (begin_all g o index same).1

  pub long : length (index_of g) ≤ length index
  long = (begin_all g o index same).0

  pub agents_told : get_or index 0 0 ≡ place_of g agents_end
  agents_told = at 0 (omega (arith, index_length g o)) ∙ index_count g o

  pub heads_there : 1 + 3 * get_or index 0 0 ≤ length index
  heads_there = omega (arith, agents_told, index_length g o, long)

  -- Head i is of an agent that observes a row.
  pub record OwnHead (i : ℕ) : Type 0 where
    pub agent : ℕ
    pub low : agent < agents_end
    pub agent_is : get_or index (1 + 3 * i) 0 ≡ agent
    pub from_is : get_or index (1 + 3 * i + 1) 0 ≡ start_of g agent
    pub len_is : get_or index (1 + 3 * i + 2) 0 ≡ counts_of g agent

  pub head_told : (i : ℕ) → i < get_or index 0 0 → OwnHead i
  head_told i lt =
      let w = of_some_agent g o i (omega (arith, lt, agents_told)) in
      let d = index_head g o w.0 w.1 w.2 in
      let far : (n : ℕ) → n < 4 → n + 3 * i < length (index_of g) = λ n few. omega (arith, d.place, w.3, index_length g o, few) in
      let two : 1 + 3 * i + 1 ≡ 2 + 3 * i = omega arith in
      let three : 1 + 3 * i + 2 ≡ 3 + 3 * i = omega arith in
      record {
        agent = w.0;
        low = w.1;
        agent_is = at (1 + 3 * i) (far 1 (omega arith)) ∙ rw w.3 at d.agent;
        from_is = rw two (at (2 + 3 * i) (far 2 (omega arith)) ∙ rw w.3 at d.offset);
        len_is = rw three (at (3 + 3 * i) (far 3 (omega arith)) ∙ rw w.3 at d.length_is);
      }

  -- The list of an agent is the rows that it sees.
  listed_at : (a : ℕ) → a < agents_end → (j : ℕ) → start_of g a ≤ j → j < start_of g a + counts_of g a → get_or index j 0 ≡ get_or (rows_seen g a) (j - start_of g a) 0
  listed_at a lt j low to =
      let whole : start_of g a + (j - start_of g a) ≡ j = omega arith in
      at j (omega (arith, to, list_within g o a lt)) ∙ rw whole at (index_list g o a (j - start_of g a) lt (omega (arith, low, to)))

  pub listed_sees : (a : ℕ) → a < agents_end → (j : ℕ) → start_of g a ≤ j → j < start_of g a + counts_of g a → (get_or index j 0 < rows_in g) × (seen_in g a (get_or index j 0) ≡ true)
  listed_sees a lt j low to =
      rw (listed_at a lt j low to)
      ((list_sees g a (get_or (rows_seen g a) (j - start_of g a) 0)).0 (at_among (rows_seen g a) (j - start_of g a) (omega (arith, sight_is g o a, low, to))))

  sees_listed : (a : ℕ) → a < agents_end → (k : ℕ) → k < rows_in g → seen_in g a k ≡ true → (j : ℕ) × (start_of g a ≤ j) × (j < start_of g a + counts_of g a) × (get_or index j 0 ≡ k)
  sees_listed a lt k row sees =
      let r = among_at (rows_seen g a) k ((list_sees g a k).1 (row, sees)) in
      let j = start_of g a + r.0 in
      let inside : j < start_of g a + counts_of g a = omega (arith, r.1, sight_is g o a) in
      let back : j - start_of g a ≡ r.0 = omega arith in
      (j, omega arith, inside, listed_at a lt j (omega arith) inside ∙ rw back r.2)

  -- Marked, the list gives the table of what the agent sees.
  pub seen_by_list :
      {old new : List ℕ} (a : ℕ) → a < agents_end → Hides old → Marked g.rows index (start_of g a) (counts_of g a) old new → SeenUpTo g a (rows_in g) old new
  unfolding view_code row_action
  seen_by_list {old} {new} a lt h m =
      record { long = m.long; low = λ k row. by_sight k row (seen_in g a k) refl; rest = λ k up. m.others k (λ j low to q. omega (arith, q, up, (listed_sees a lt j low to).0)) }
    where
      by_sight : (k : ℕ) → k < rows_in g → (b : Bool) → seen_in g a k ≡ b → get_or new k 0 ≡ view_code (seen_in g a k) (row_action g k)
      by_sight k row true e =
          let w = sees_listed a lt k row e in
          rw e (rw w.3 at (m.listed w.0 w.1 w.2))
      by_sight k row false e =
          rw e (m.others k (λ j low to q. not_both (rw q at (listed_sees a lt j low to).1) e) ∙ h.hidden k (omega (arith, row, o.rows_few)))

  -- An agent without a head sees no row.
  pub unlisted_sees :
      {old : List ℕ} (a : ℕ) → Hides old → ((i : ℕ) → i < get_or index 0 0 → get_or index (1 + 3 * i) 0 ≡ a → ⊥) → SeenUpTo g a (rows_in g) old old
  unfolding view_code
  unlisted_sees {old} a h none =
      record { long = refl; low = λ k row. by_sight k row (seen_in g a k) refl; rest = λ k up. refl }
    where
      by_sight : (k : ℕ) → k < rows_in g → (b : Bool) → seen_in g a k ≡ b → get_or old k 0 ≡ view_code (seen_in g a k) (row_action g k)
      by_sight k row true e =
          let w = seer_observes g o a k row e in
          let d = index_head g o a w.0 w.1 in
          absurd (none (place_of g a) (omega (arith, agents_told, d.place)) (at (1 + 3 * place_of g a) (omega (arith, d.place, index_length g o)) ∙ d.agent))
      by_sight k row false e = rw e (h.hidden k (omega (arith, row, o.rows_few)))

  -- What the marking asks for.
  pub list_there : (i : ℕ) → i < get_or index 0 0 → Listed g.rows index (get_or index (1 + 3 * i + 1) 0) (get_or index (1 + 3 * i + 2) 0)
  unfolding rows_in
  list_there i lt =
      let d = head_told i lt in
      let within = list_within g o d.agent d.low in
      rw (d.from_is, d.len_is)
      record {
        there = omega (arith, within, long);
        short = omega (arith, within, index_fits g o);
        rows_few = o.rows_few;
        row = λ j low to. (listed_sees d.agent d.low j low to).0;
      }

  pub seen_at_head :
      {old new : List ℕ} (i : ℕ) → i < get_or index 0 0 → (a : ℕ) → get_or index (1 + 3 * i) 0 ≡ a → Hides old →
      Marked g.rows index (get_or index (1 + 3 * i + 1) 0) (get_or index (1 + 3 * i + 2) 0) old new → SeenUpTo g a (rows_in g) old new
  seen_at_head i lt a is h m =
      let d = head_told i lt in
      let same_agent : d.agent ≡ a = sym d.agent_is ∙ is in
      rw same_agent at (seen_by_list d.agent d.low h (rw (d.from_is, d.len_is) at m))
