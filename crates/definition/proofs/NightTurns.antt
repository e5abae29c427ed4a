-- Request 7: files one after the other. What one file leaves of the room, and from that: one that does not pass may be left out; the entries written are the lists of those that pass, end to end; files struck out come to the same. Assumes nothing.
use Prim.Native.Nat.{ℕ, suc, ◌+◌, ◌≤◌}
use mathlib.Core.Path.{◌≡◌, refl, sym, ap, ap₂, ◌∙◌}
use mathlib.Core.Logic.{inl, inr, ⊎_elim}
use mathlib.Core.List.{List, [], ◌∷◌, ◌++◌, map, append_assoc}
use native.Mathlib.Omega.{arith}
use lib.ListN.{length, take, drop, length-append}
use lib.Seq.{length-take-le, drop-drop, take_at}
use Rattle.definition.proofs.CitedLists.{pass_lists}
use Rattle.definition.proofs.RoomLaws.{refusal_keeps_room, none_owed_keeps_room, pass_keeps_rest, pass_fits}
use Rattle.definition.proofs.UnseenRows.{as_if_struck}
use Rattle.definition.specs.03-Lists.{join_all}
use Rattle.definition.specs.17-Case.{case_of}
use Rattle.definition.specs.19-Rewriting.{strike}
use Rattle.definition.specs.31-Outcome.{Verdict, passed, none_owed, refused, Outcome, outcome}
use Rattle.definition.specs.36-Night.{entries_of, Turns, in_turn}
use Rattle.definition.specs.44-Demands.{Cited}
use Rattle.definition.specs.71-Nights.{NoPass, RefusedStopsNone, Wrote, its_lists, nothing_owed, nothing_refused, AllWrote, no_file, one_file, AllStruckAlike}

-- One file. It writes entries that the room has, no more than 1,088 of them, and keeps all others.
pub record Written (room : List ℕ) (v : Verdict) (after : List ℕ) : Type 0 where
  pub long : length after ≡ length room
  pub fits : entries_of v ≤ length room
  pub few : entries_of v ≤ 1088
  pub rest : drop (entries_of v) after ≡ drop (entries_of v) room

nothing_written : {room after : List ℕ} (v : Verdict) → entries_of v ≡ 0 → after ≡ room → Written room v after
nothing_written v e same = record { long = ap length same; fits = omega arith; few = omega arith; rest = ap (drop (entries_of v)) same }

pub written : (s room : List ℕ) → Written room (outcome s room).verdict (outcome s room).room
unfolding entries_of
written s room = go (outcome s room).verdict refl
  where
    go : (v : Verdict) → (outcome s room).verdict ≡ v → Written room (outcome s room).verdict (outcome s room).room
    go (passed d r) e =
        let kept = pass_keeps_rest s room d r e in
        let fits = pass_fits s room d r e in
        rw e (record { long = kept.0; fits = fits.0; few = fits.1; rest = kept.1 })
    go none_owed e = rw e (nothing_written none_owed refl (none_owed_keeps_room s room e))
    go (refused n p) e = rw e (nothing_written (refused n p) refl (refusal_keeps_room s room n p e))

-- The first file, and the others in the part of the room that it leaves.
module _ (s : List ℕ) (ss : List (List ℕ)) (room : List ℕ) where
  abbrev pub first : Outcome
  first = outcome s room

  abbrev pub wrote : ℕ
  wrote = entries_of first.verdict

  abbrev pub others : Turns
  others = in_turn ss (drop wrote room)

  pub verdicts_turn : (in_turn (s ∷ ss) room).verdicts ≡ first.verdict ∷ others.verdicts
  unfolding in_turn
  verdicts_turn = rw (written s room).rest

  pub room_turn : (in_turn (s ∷ ss) room).room ≡ take wrote first.room ++ others.room
  unfolding in_turn
  room_turn = rw (written s room).rest

-- A file that does not pass writes no entry.
no_pass : (v : Verdict) → NoPass v → entries_of v ≡ 0
unfolding entries_of
no_pass (passed d r) none = absurd (none d r refl)
no_pass none_owed none = refl
no_pass (refused n p) none = refl

pub refused_stops_none : RefusedStopsNone
refused_stops_none [] behind s room [] ws v e long none =
    let turn = sym (verdicts_turn s behind room) ∙ e in
    let is : (first s behind room).verdict ≡ v = cc in
    let zero : wrote s behind room ≡ 0 = ap entries_of is ∙ no_pass v none in
    let all : in_turn behind (drop (wrote s behind room) room) ≡ in_turn behind room = rw zero in
    (ap (λ (t : Turns). t.verdicts) (sym all) ∙ (cc), sym (room_turn s behind room ∙ rw zero))
refused_stops_none [] behind s room (u ∷ us) ws v e long none = absurd (omega arith)
refused_stops_none (b ∷ bs) behind s room [] ws v e long none = absurd (omega arith)
refused_stops_none (b ∷ bs) behind s room (u ∷ us) ws v e long none =
    let turn = sym (verdicts_turn b (bs ++ s ∷ behind) room) ∙ e in
    let is : (outcome b room).verdict ≡ u = cc in
    let rest = refused_stops_none bs behind s (drop (wrote b bs room) room) us ws v (cc) (omega arith) none in (
      verdicts_turn b (bs ++ behind) room ∙ ap₂ (λ (x : Verdict) (xs : List Verdict). x ∷ xs) is rest.0,
      room_turn b (bs ++ behind) room ∙ ap (λ (l : List ℕ). take (wrote b bs room) (outcome b room).room ++ l) rest.1 ∙ sym (room_turn b (bs ++ s ∷ behind) room),
    )

-- What a file writes, by its verdict.
by_counts : {s duties rows : List ℕ} {d r : ℕ} → length duties ≡ d → length rows ≡ r → Cited (case_of s) duties rows → Wrote s (passed d r) (duties ++ rows)
by_counts e f c = rw (← e, ← f) (its_lists c)

its_entries : (s room : List ℕ) → Wrote s (outcome s room).verdict (take (entries_of (outcome s room).verdict) (outcome s room).room)
unfolding entries_of
its_entries s room = go (outcome s room).verdict refl
  where
    go : (v : Verdict) → (outcome s room).verdict ≡ v → Wrote s (outcome s room).verdict (take (entries_of (outcome s room).verdict) (outcome s room).room)
    go (passed d r) e =
        let l = pass_lists s room d r e in
        let both : length (l.duties ++ l.rows) ≡ d + r = omega (arith, length-append l.duties l.rows, l.duties_count, l.rows_count) in
        let entries : take (d + r) (outcome s room).room ≡ l.duties ++ l.rows =
        ap (take (d + r)) l.room_is ∙ take_at (l.duties ++ l.rows) (drop (d + r) room) (d + r) both in
        rw (e, entries) (by_counts l.duties_count l.rows_count l.cited)
    go none_owed e = rw e nothing_owed
    go (refused n p) e = rw e nothing_refused

pub lists_in_turn :
    (ss : List (List ℕ)) (room : List ℕ) →
    (ls : List (List ℕ)) × AllWrote ss (in_turn ss room).verdicts ls × ((in_turn ss room).room ≡ join_all ls ++ drop (length (join_all ls)) room)
unfolding in_turn join_all
lists_in_turn [] room = ([], no_file, refl)
lists_in_turn (s ∷ ss) room =
    let w = written s room in
    let n = wrote s ss room in
    let l = take n (first s ss room).room in
    let rest = lists_in_turn ss (drop n room) in
    let all = join_all rest.0 in
    let long : length l ≡ n = length-take-le n (first s ss room).room (omega (arith, w.long, w.fits)) in
    let both : n + length all ≡ length (l ++ all) = omega (arith, length-append l all) in
    let behind : drop (length all) (drop n room) ≡ drop (length (l ++ all)) room = drop-drop (length all) n room ∙ ap (λ (m : ℕ). drop m room) both in (
      l ∷ rest.0,
      rw (verdicts_turn s ss room) (one_file (its_entries s room) rest.1),
      room_turn s ss room ∙ ap (λ (x : List ℕ). l ++ x) (rest.2 ∙ ap (λ (x : List ℕ). all ++ x) behind) ∙ sym (append_assoc l all (drop (length (l ++ all)) room)),
    )

-- A file struck out comes to the same, unless that mends it; and so do all.
pub all_struck_alike : AllStruckAlike
all_struck_alike [] room = inl refl
all_struck_alike (s ∷ ss) room =
    ⊎_elim
    (λ same.
    let n = wrote s ss room in
    let first_same : outcome s room ≡ outcome (strike s) room = same in
    ⊎_elim
    (λ rest.
    let r : in_turn ss (drop n room) ≡ in_turn (map strike ss) (drop (wrote (strike s) ss room) room) = rest ∙ rw first_same in
    inl (turns_same (verdicts_turn s ss room ∙ (ap₂ (λ (x : Outcome) (t : Turns). x.verdict ∷ t.verdicts) first_same r) ∙ sym (verdicts_turn (strike s) (map strike ss) room))
    (room_turn s ss room ∙ ap₂ (λ (x : Outcome) (t : Turns). take (entries_of x.verdict) x.room ++ t.room) first_same r ∙ sym (room_turn (strike s) (map strike ss) room))))
    (λ m. inr (suc m.0, m.1, omega (arith, m.2), rw (verdicts_turn s ss room) m.3, m.4))
    (all_struck_alike ss (drop n room)))
    (λ m. inr (0, m.0, omega arith, rw (verdicts_turn s ss room) m.1, m.2))
    (as_if_struck.0 (record { file = s; room = room }))
  where
    turns_same : {t u : Turns} → t.verdicts ≡ u.verdicts → t.room ≡ u.room → t ≡ u
    turns_same e f = λ i. record { verdicts = e i; room = f i }
