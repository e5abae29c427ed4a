-- Request 5: what building an index answers and leaves in the room, and that the check through an index as built is the check without one. Striking out rows changes no index, so demand 3 holds of it. Assumes nothing.
use Prim.Native.Nat.{ℕ, ◌+◌, ◌*◌, ◌≤◌, ◌<◌}
use mathlib.Core.Path.{◌≡◌, refl, sym, ap, fun_ext, ◌∙◌}
use mathlib.Core.Bool.{Bool, true, false}
use mathlib.Core.Logic.{◌⊎◌, inl, inr, ⊎_elim}
use mathlib.Core.List.{List, [], ◌∷◌, ◌++◌}
use native.Mathlib.Omega.{arith}
use lib.ListN.{length, drop, length-append, length-drop}
use lib.Seq.{take-append_seam, drop-append_seam}
use lib.Dec.{ltb}
use borrow.Author.Tests.{ltb-true, ltb-false, lt-ltb}
use Rattle.definition.proofs.CheckLaws.{then_assoc, then_accepts, then_refuses, never_both, in_order_append, stops, all_hold, hold_all, first_fault, fault_first, other_number}
use Rattle.definition.proofs.Findings.{reported_refusal}
use Rattle.definition.proofs.ListLaws.{begins_take, take_begins, begins_append}
use Rattle.definition.proofs.PromiseLaws.{promised}
use Rattle.definition.proofs.RefusalTable.{step_refused}
use Rattle.definition.proofs.StruckFile.{same_from, same_count, same_rows, same_observers, same_seen, struck_or_parted, log_struck}
use Rattle.definition.proofs.Tests.{not_both}
use Rattle.definition.proofs.UnseenRows.{unseen_rows_are_unseen, as_if_struck}
use Rattle.definition.specs.03-Lists.{begins}
use Rattle.definition.specs.04-Checks.{single, Checked, accepts, refuses, ◌>>◌, in_order, Fails, AllHold, FirstFault, here, later}
use Rattle.definition.specs.11-Layout.{agent_of, layout_checks}
use Rattle.definition.specs.14-Book.{book_checks}
use Rattle.definition.specs.15-Records.{Log, log_of, observers_in, log_checks, record_checks}
use Rattle.definition.specs.16-Views.{seen_in}
use Rattle.definition.specs.17-Case.{case_of}
use Rattle.definition.specs.18-Admission.{checks_to_log, admission_checks, admission}
use Rattle.definition.specs.19-Rewriting.{strike_log, strike}
use Rattle.definition.specs.22-Steps.{citation_checks, misfit_checks, fit_checks, shape_checks, above_checks, use_checks, step_checks, state_at}
use Rattle.definition.specs.23-Duties.{duty_checks}
use Rattle.definition.specs.31-Outcome.{Verdict, refused, Finding, closing_checks, room_checks, owing_checks, end_checks, case_checks, all_checks, found, finding, report, outcome}
use Rattle.definition.specs.35-Index.{row_observers, observing, rows_seen, heads, index_of, index_room_checks, building_checks, lay, building, not_as_built, as_built_checks, checks_through, finding_through, outcome_through}
use Rattle.definition.specs.44-Demands.{Mended}
use Rattle.definition.specs.47-Indexed.{BuildingRefused, IndexBuilt, AsBuilt, ThroughExactly, ThroughKeepsRoom, LaterNotRead, BuiltIsAsBuilt, BuiltIsEnough, StrikingKeepsIndex, checking_through, ThroughShowsNoRow, AnsweredThrough}

-- An index is of who sees a row: it is the same where rows are struck out.
module _ (g : Log) (agent : ℕ) where
  abbrev struck : Log
  struck = strike_log g agent

  same_lists : rows_seen struck ≡ rows_seen g
  unfolding rows_seen
  same_lists = fun_ext λ a. let seen : seen_in struck a ≡ seen_in g a = fun_ext (same_seen g agent a) in rw (seen, same_rows g agent)

  same_heads : (at : ℕ) (xs : List ℕ) → heads struck at xs ≡ heads g at xs
  unfolding heads
  same_heads at [] = refl
  same_heads at (a ∷ xs) = rw (same_lists, same_heads (at + length (rows_seen g a)) xs)

  same_row_observers : row_observers struck ≡ row_observers g
  unfolding row_observers observers_in
  same_row_observers = fun_ext λ k. rw (same_from g agent, same_count g agent, same_observers g agent)

  same_observing : observing struck ≡ observing g
  unfolding observing
  same_observing = rw (same_row_observers, same_rows g agent)

  struck_index : index_of struck ≡ index_of g
  unfolding index_of
  struck_index = rw (same_observing, same_lists, same_heads (1 + 3 * length (observing g)) (observing g))

pub index_struck : StrikingKeepsIndex
index_struck s = ⊎_elim (λ e. ap (λ t. index_of (log_of t)) e) (λ f. ap index_of (log_struck s f) ∙ struck_index (log_of s) (agent_of s)) (struck_or_parted s)

-- Building: the answer is that of checks 1 to 5, and then of 29.
lay_refused : (r : Checked (Unit {0})) (index room : List ℕ) {n p : ℕ} → (lay r index room).answer ≡ refuses n p → (r ≡ refuses n p) × ((lay r index room).room ≡ room)
unfolding lay
lay_refused (accepts x) index room e = absurd (never_both e)
lay_refused (refuses m q) index room e = (cc, refl)

refused_lay : {r : Checked (Unit {0})} (index room : List ℕ) {n p : ℕ} → r ≡ refuses n p → (lay r index room).answer ≡ refuses n p
unfolding lay
refused_lay index room e = rw e

lay_accepted :
    (r : Checked (Unit {0})) (index room : List ℕ) {n : ℕ} → (lay r index room).answer ≡ accepts n →
    (r ≡ accepts tt) × (n ≡ length index) × ((lay r index room).room ≡ index ++ drop (length index) room)
unfolding lay
lay_accepted (accepts x) index room e = (refl, cc, refl)
lay_accepted (refuses m q) index room e = absurd (never_both (sym e))

module _ (s room : List ℕ) where
  abbrev index : List ℕ
  index = index_of (log_of s)

  abbrev run : Checked (Unit {0})
  run = in_order (building_checks s (length room))

  -- Check 29 fails just if the room is too short.
  room_fault : {n p : ℕ} → FirstFault (index_room_checks (log_of s) (length room)) n p → (n ≡ 29) × (p ≡ length index) × (length room < p)
  unfolding index_room_checks
  room_fault (here f) = (sym f.0, sym f.1, omega (arith, f.1, ltb-true (length room) (length index) f.2))
  room_fault (later _ f) = elim f [ ]

  fault_room : {p : ℕ} → p ≡ length index → length room < p → FirstFault (index_room_checks (log_of s) (length room)) 29 p
  unfolding index_room_checks
  fault_room {p} is short =
      let f : Fails (single 29 (length index) (ltb (length room) (length index))) 29 p = (refl, sym is, lt-ltb (length room) (length index) (omega arith)) in
      here f

  in_turn : run ≡ ◌>>◌ (in_order (checks_to_log s)) (in_order (index_room_checks (log_of s) (length room)))
  unfolding building_checks
  in_turn = in_order_append (checks_to_log s) (index_room_checks (log_of s) (length room))

  run_refused : {n p : ℕ} → run ≡ refuses n p → (in_order (checks_to_log s) ≡ refuses n p) ⊎ ((in_order (checks_to_log s) ≡ accepts tt) × ((n ≡ 29) × (p ≡ length index) × (length room < p)))
  run_refused {n} {p} e =
      ⊎_elim (λ w. inl w) (λ w. inr (w.0.1, room_fault (first_fault (index_room_checks (log_of s) (length room)) n p w.1)))
      (then_refuses (in_order (checks_to_log s)) (in_order (index_room_checks (log_of s) (length room))) n p (sym in_turn ∙ e))

  refused_run : {n p : ℕ} → in_order (checks_to_log s) ≡ refuses n p → run ≡ refuses n p
  unfolding ◌>>◌
  refused_run e = in_turn ∙ rw e

  short_run : {p : ℕ} → in_order (checks_to_log s) ≡ accepts tt → p ≡ length index → length room < p → run ≡ refuses 29 p
  unfolding ◌>>◌
  short_run e is short = in_turn ∙ rw e (fault_first (fault_room is short))

  long_room : run ≡ accepts tt → length index ≤ length room
  unfolding index_room_checks
  long_room e =
      let a = then_accepts (in_order (checks_to_log s)) (in_order (index_room_checks (log_of s) (length room))) tt (sym in_turn ∙ e) in
      ltb-false (length room) (length index) (all_hold (index_room_checks (log_of s) (length room)) a.1).0

  -- None of checks 1 to 5 has number 29.
  not_before : {A : Type 0} {p : ℕ} → in_order (checks_to_log s) ≡ refuses 29 p → A
  unfolding checks_to_log layout_checks book_checks log_checks
  not_before {p = p} e = other_number (checks_to_log s) refl (first_fault (checks_to_log s) 29 p e)

  run_of : {n p : ℕ} → (building s room).answer ≡ refuses n p → run ≡ refuses n p
  unfolding building
  run_of e = (lay_refused run index room e).0

  of_run : {n p : ℕ} → run ≡ refuses n p → (building s room).answer ≡ refuses n p
  unfolding building
  of_run e = refused_lay index room e

pub building_refused : BuildingRefused
unfolding building
building_refused s room n p = (
  λ e. (lay_refused (run s room) (index s room) room e).1,
  (
    λ e. ⊎_elim (λ w. not_before s room w) (λ w. (w.0, w.1.1, w.1.2)) (run_refused s room (run_of s room e)),
    λ w. of_run s room (short_run s room w.0 w.1 w.2),
  ),
  λ other. (
    λ e. ⊎_elim (λ w. w) (λ w. absurd (other w.1.0)) (run_refused s room (run_of s room e)),
    λ w. of_run s room (refused_run s room w),
  ),
)

-- The index laid over the front of the room.
laid : (index room : List ℕ) → length index ≤ length room → length (index ++ drop (length index) room) ≡ length room
laid index room le = simp (length-append, length-drop) (omega arith)

pub index_built : IndexBuilt
unfolding building
index_built s room n e =
    let l = index s room in
    let w = lay_accepted (run s room) l room e in
    let enough = long_room s room w.0 in (
      w.1,
      omega (arith, w.1, enough),
      rw (w.1, w.2) (take-append_seam l (drop (length l) room)),
      rw (w.1, w.2) (drop-append_seam l (drop (length l) room)),
      rw w.2 (laid l room enough),
    )

-- No check without an index has number 30.
module _ (s : List ℕ) where
  admission_other : {A : Type 0} {p : ℕ} → admission s ≡ refuses 30 p → A
  unfolding admission admission_checks checks_to_log layout_checks book_checks log_checks record_checks
  admission_other {p = p} e = other_number (admission_checks s) refl (first_fault (admission_checks s) 30 p e)

  outcome_other : {A : Type 0} (room : List ℕ) {p : ℕ} → (outcome s room).verdict ≡ refused 30 p → A
  unfolding checks_to_log admission_checks layout_checks book_checks log_checks record_checks owing_checks closing_checks duty_checks room_checks end_checks step_checks shape_checks citation_checks above_checks use_checks fit_checks misfit_checks
  outcome_other room {p = p} e =
      let r = step_refused s room 30 p refl refl refl refl e in
      other_number (step_checks (case_of s) r.1 (state_at (case_of s) r.1)) refl r.2.fault

-- The check through an index: the admission, check 30, and the rest.
module _ (s index : List ℕ) (room : ℕ) where
  abbrev rest : Checked Finding
  rest = ◌>>◌ (in_order (case_checks (case_of s) room)) (accepts (found (case_of s)))

  in_three : finding_through s index room ≡ ◌>>◌ (admission s) (◌>>◌ (in_order (as_built_checks (log_of s) index)) rest)
  unfolding finding_through checks_through admission
  in_three = simp (in_order_append, then_assoc)

  in_two : finding s room ≡ ◌>>◌ (admission s) rest
  unfolding finding all_checks admission
  in_two = simp (in_order_append, then_assoc)

  -- An index as built lets the rest be the whole check.
  pub as_built : begins (index_of (log_of s)) index ≡ true → finding_through s index room ≡ finding s room
  unfolding as_built_checks not_as_built ◌>>◌
  as_built e =
      let h : AllHold (as_built_checks (log_of s) index) = (rw e, tt) in
      in_three ∙ rw (hold_all (as_built_checks (log_of s) index) h) (sym in_two)

  -- Any other is refused where the admission accepts.
  pub not_as_built_lem : begins (index_of (log_of s)) index ≡ false → finding_through s index room ≡ ◌>>◌ (admission s) (refuses 30 0)
  unfolding as_built_checks not_as_built ◌>>◌
  not_as_built_lem e =
      let f : Fails (single 30 0 (not_as_built (log_of s) index)) 30 0 = (refl, refl, rw e) in
      in_three ∙ rw (stops (single 30 0 (not_as_built (log_of s) index)) [] 30 0 f)

-- The same of the outcome.
module _ (s index room : List ℕ) where
  through_built : begins (index_of (log_of s)) index ≡ true → outcome_through s index room ≡ outcome s room
  unfolding outcome_through outcome
  through_built e = ap (λ x. report x room) (as_built s index (length room) e)

  through_other : begins (index_of (log_of s)) index ≡ false → outcome_through s index room ≡ report (◌>>◌ (admission s) (refuses 30 0)) room
  unfolding outcome_through
  through_other e = ap (λ x. report x room) (not_as_built_lem s index (length room) e)

  -- What is refused by the admission is refused alike.
  refused_alike : {n p : ℕ} → begins (index_of (log_of s)) index ≡ false → admission s ≡ refuses n p → outcome_through s index room ≡ outcome s room
  unfolding outcome ◌>>◌
  refused_alike e a = through_other e ∙ ap (λ x. report x room) (rw (in_two s index (length room), a))

  refused_other : begins (index_of (log_of s)) index ≡ false → admission s ≡ accepts tt → (outcome_through s index room).verdict ≡ refused 30 0
  unfolding report ◌>>◌
  refused_other e a = rw (through_other e, a)

  -- A refusal by 30, and where there is none.
  by_30 : (b : Bool) → begins (index_of (log_of s)) index ≡ b → {p : ℕ} → (outcome_through s index room).verdict ≡ refused 30 p → (admission s ≡ accepts tt) × (AsBuilt (log_of s) index → ⊥) × (p ≡ 0)
  by_30 true e is = outcome_other s room (rw (through_built e) at is)
  by_30 false e {p} is =
      ⊎_elim
      (λ w. admission_other s w)
      (λ w. (w.0.1, λ built. not_both (take_begins (index_of (log_of s)) index built) e, place w.1))
      (then_refuses (admission s) (refuses 30 0) 30 p (reported_refusal _ room 30 p (rw (through_other e) at is)))
    where
      place : {q : ℕ} → ◌≡◌ {A = Checked Finding} (refuses 30 0) (refuses 30 q) → q ≡ 0
      place w = cc

  to_30 : (b : Bool) → begins (index_of (log_of s)) index ≡ b → {p : ℕ} → (admission s ≡ accepts tt) × (AsBuilt (log_of s) index → ⊥) × (p ≡ 0) → (outcome_through s index room).verdict ≡ refused 30 p
  to_30 true e w = absurd (w.1 (begins_take (index_of (log_of s)) index e))
  to_30 false e w = rw w.2 (refused_other e w.0)

  not_30 : (b : Bool) → begins (index_of (log_of s)) index ≡ b → ((p : ℕ) → (outcome_through s index room).verdict ≡ refused 30 p → ⊥) → outcome_through s index room ≡ outcome s room
  not_30 true e never = through_built e
  not_30 false e never = go (admission s) refl
    where
      go : (r : Checked (Unit {0})) → admission s ≡ r → outcome_through s index room ≡ outcome s room
      go (accepts x) a = absurd (never 0 (refused_other e a))
      go (refuses n p) a = refused_alike e a

pub through_exactly : ThroughExactly
through_exactly s index room =
    let due = begins (index_of (log_of s)) index in
    (λ p. (by_30 s index room due refl, to_30 s index room due refl), not_30 s index room due refl)

-- As built, the outcome is the one without an index.
pub through_as_built : (s index room : List ℕ) → AsBuilt (log_of s) index → outcome_through s index room ≡ outcome s room
through_as_built s index room built = through_built s index room (take_begins (index_of (log_of s)) index built)

pub built_is_as_built : BuiltIsAsBuilt
built_is_as_built s lent n e = let w = index_built s lent n e in rw (← w.0) w.2

pub built_is_enough : BuiltIsEnough
built_is_enough s t lent room n e same = through_as_built t (building s lent).room room (rw (← same) (built_is_as_built s lent n e))

-- A refusal changes no entry, and no entry behind the index changes the answer.
pub through_keeps_room : ThroughKeepsRoom
unfolding outcome_through report
through_keeps_room s index room n p e = rw (reported_refusal (finding_through s index (length room)) room n p e)

pub later_not_read : LaterNotRead
unfolding outcome_through finding_through checks_through as_built_checks not_as_built
later_not_read s index more room long = rw (begins_append (index_of (log_of s)) index more long)

-- Demand 3.
module _ (s index room : List ℕ) where
  abbrev AsStruck : Type 0
  AsStruck = (outcome_through s index room ≡ outcome_through (strike s) index room) ⊎ ((p : ℕ) × ((outcome_through s index room).verdict ≡ refused 5 p) × Mended s p)

  struck_through : (b : Bool) → begins (index_of (log_of s)) index ≡ b → AsStruck
  unfolding report ◌>>◌
  struck_through true e =
      ⊎_elim
      (λ same. inl (through_built s index room e ∙ same ∙ sym (through_built (strike s) index room (rw (index_struck s) e))))
      (λ m. inr (m.0, rw (through_built s index room e) m.1, m.2))
      (as_if_struck.0 (record { file = s; room = room }))
  struck_through false e =
      ⊎_elim
      (λ same. inl (through_other s index room e ∙ ap (λ r. report (◌>>◌ r (refuses 30 0)) room) same ∙ sym (through_other (strike s) index room (rw (index_struck s) e))))
      (λ m. inr (m.0, rw (through_other s index room e, m.1), m.2))
      (as_if_struck.1 s)

pub through_shows_no_row : ThroughShowsNoRow
through_shows_no_row = (
  λ i j a ws wt.
      let first = through_as_built i.file i.index i.room a.1 in
      let second = through_as_built j.file j.index j.room a.2 in
      first
      ∙ unseen_rows_are_unseen.0 (record { file = i.file; room = i.room }) (record { file = j.file; room = j.room }) (a.0, a.3) (rw first at ws) (rw second at wt)
      ∙ sym second,
  λ i. struck_through i.file i.index i.room (begins (index_of (log_of i.file)) i.index) refl,
)

-- The promise of the check through an index, and an answer that stands for an answer.
pub answered_through : {A : Type 0} (meant : Verdict → A) (s index room : List ℕ) (a : A) (after : List ℕ) → a ≡ meant (outcome_through s index room).verdict → after ≡ (outcome_through s index room).room → AnsweredThrough meant s index room a after
answered_through meant s index room a after e f = promised checking_through through_shows_no_row.0 through_shows_no_row.1 _ _ _ (λ i. (e i, f i))

pub answered_through_as : {A : Type 0} (meant : Verdict → A) {s index room : List ℕ} {v : Verdict} {a : A} {after : List ℕ} → a ≡ meant v → AnsweredThrough (λ x. x) s index room v after → AnsweredThrough meant s index room a after
answered_through_as meant e h = answered_through meant _ _ _ _ _ (e ∙ ap (λ x. meant x.0) h.is) (ap (λ x. x.1) h.is)
