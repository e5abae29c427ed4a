-- Demand 1, on the room: what is not a pass keeps it, and a pass keeps all behind its lists. By what the checks come to. And the program's room is never too short, and in two that are as long the same is found.
-- Assumes nothing.
use Prim.Native.Nat.{ℕ, ◌+◌, ◌≤◌}
use mathlib.Core.Path.{◌≡◌, refl, sym, ◌∙◌}
use mathlib.Core.Logic.{⊎_elim}
use mathlib.Core.List.{List, [], ◌++◌}
use native.Mathlib.Omega.{arith}
use lib.ListN.{length, drop, length-append, length-drop, length-replicate}
use lib.Seq.{drop-append_seam}
use Rattle.definition.proofs.AdmissionLaws.{admitted_parted}
use Rattle.definition.proofs.CheckLaws.{fault_either, fault_before, other_number}
use Rattle.definition.proofs.Findings.{reported_pass, reported_none, reported_refusal}
use Rattle.definition.proofs.NoneOwed.{none_owed_exactly}
use Rattle.definition.proofs.PartLaws.{part_few, log_rows}
use Rattle.definition.proofs.Passes.{Proved, entries, finding_proved, proved_passes, short_proved}
use Rattle.definition.proofs.RangeLaws.{members_length}
use Rattle.definition.proofs.RefusalTable.{refused_by_table}
use Rattle.definition.specs.04-Checks.{FirstFault, here, later, Checked, accepts, refuses}
use Rattle.definition.specs.11-Layout.{log_part, obligation_part, most_records}
use Rattle.definition.specs.17-Case.{Case, case_of}
use Rattle.definition.specs.22-Steps.{State}
use Rattle.definition.specs.23-Duties.{duty_checks}
use Rattle.definition.specs.31-Outcome.{passed, refused, Finding, justified, nothing_owed, discharged_list, cited_list, needed, closing_checks, room_checks, end_checks, final_state, finding, report, outcome}
use Rattle.definition.specs.33-Text.{lent_room}
use Rattle.definition.specs.34-Program.{LentRoomSuffices}
use Rattle.definition.specs.44-Demands.{InTable, in_admission, in_owing, in_step, in_end, in_duties, RefusalKeepsRoom, NoneOwedKeepsRoom, PassKeepsRest}

pub refusal_keeps_room : RefusalKeepsRoom
unfolding outcome report
refusal_keeps_room s room n p e = rw (reported_refusal (finding s (length room)) room n p e)

pub none_owed_keeps_room : NoneOwedKeepsRoom
unfolding outcome report
none_owed_keeps_room s room e = rw (reported_none (finding s (length room)) room e)

drop_lists : (ds rs xs : List ℕ) → drop (length ds + length rs) (ds ++ rs ++ xs) ≡ xs
drop_lists ds rs xs = rw (← length-append ds rs) (drop-append_seam (ds ++ rs) xs)

written :
    (x : Checked Finding) (room ds rs : List ℕ) (d r : ℕ) → x ≡ accepts (justified ds rs) → length ds ≡ d → length rs ≡ r →
    length ds + length rs ≤ length room →
    (length (report x room).room ≡ length room) × (drop (d + r) (report x room).room ≡ drop (d + r) room)
unfolding report
written x room ds rs d r e ld lr enough =
    rw (e, ← ld, ← lr) (simp (length-append, length-drop) (omega arith), drop_lists ds rs (drop (length ds + length rs) room))

-- What a file needs is at most an entry for each obligation and row that it may have.
entries_few : (s : List ℕ) → Proved s → entries s ≤ 1088
unfolding entries needed discharged_list cited_list case_of most_records
entries_few s w =
    let c = case_of s in
    let f = admitted_parted s w.admitted in
    omega
    (arith, members_length (final_state c).discharged c.obligations 0, members_length (final_state c).cited c.rows 0, part_few s f obligation_part (omega arith), part_few s f log_part (omega arith), log_rows s f)

-- The entries of a pass: the room has them, and they are no more than that.
pub pass_fits : (s room : List ℕ) (d r : ℕ) → (outcome s room).verdict ≡ passed d r → (d + r ≤ length room) × (d + r ≤ 1088)
unfolding outcome needed entries
pass_fits s room d r e =
    let x = reported_pass (finding s (length room)) room d r e in
    let p = finding_proved s (length room) x.0 x.1 x.2 in
    let few = entries_few s p.0 in
    let lists : length x.0 + length x.1 ≡ entries s = rw (p.2, p.3) in
    (omega (arith, lists, p.1, x.3, x.4), omega (arith, lists, few, x.3, x.4))

pub pass_keeps_rest : PassKeepsRest
unfolding outcome
pass_keeps_rest s room d r e =
    let x = reported_pass (finding s (length room)) room d r e in
    written (finding s (length room)) room x.0 x.1 d r x.2 x.3 x.4 (omega (arith, pass_fits s room d r e, x.3, x.4))

-- A room with so many entries is never too short.
pub long_room_suffices : (s room : List ℕ) → 1088 ≤ length room → (n : ℕ) → (outcome s room).verdict ≡ refused 23 n → ⊥
long_room_suffices s room long n e =
    let w = short_proved s (length room) n ((refused_by_table s room 23 n).0 e) in
    omega (arith, w.1, w.2, entries_few s w.0)

pub lent_room_long : length lent_room ≡ 1088
unfolding lent_room
lent_room_long = length-replicate {A = ℕ} 1088 0

pub lent_room_suffices : LentRoomSuffices
lent_room_suffices s n e = long_room_suffices s lent_room (omega (arith, lent_room_long)) n e

-- In two such rooms the checks find the same: only 23 looks at the room, and it holds in both.
room_number : (c : Case) (t : State) (m : ℕ) {n p : ℕ} → FirstFault (room_checks c t m) n p → n ≡ 23
unfolding room_checks
room_number c t m (here f) = sym f.0
room_number c t m (later h f) = other_number [] refl f

module _ (s : List ℕ) (room other : List ℕ) (long : 1088 ≤ length room) where
  same_refusal : {n p : ℕ} → (n ≡ 23 → ⊥) → InTable s (length room) n p → InTable s (length other) n p
  unfolding end_checks
  same_refusal not (in_admission f) = in_admission f
  same_refusal not (in_owing a f) = in_owing a f
  same_refusal not (in_step a o lt before f) = in_step a o lt before f
  same_refusal not (in_end a o lt fine f) =
      let c = case_of s in
      let t = final_state c in
      ⊎_elim (λ g. in_end a o lt fine (fault_before (room_checks c t (length other)) g)) (λ g. absurd (not (room_number c t (length room) g.1)))
      (fault_either (closing_checks c t ++ duty_checks c) (room_checks c t (length room)) f)
  same_refusal not (in_duties a o e f) = in_duties a o e f

  refuses_same : {n p : ℕ} → finding s (length room) ≡ refuses n p → finding s (length other) ≡ refuses n p
  unfolding outcome report
  refuses_same {n} {p} e =
      let told : (outcome s room).verdict ≡ refused n p = rw e in
      let not : n ≡ 23 → ⊥ = λ q. long_room_suffices s room long p (rw q at told) in
      reported_refusal (finding s (length other)) other n p ((refused_by_table s other n p).1 (same_refusal not ((refused_by_table s room n p).0 told)))

  none_same : finding s (length room) ≡ accepts nothing_owed → finding s (length other) ≡ accepts nothing_owed
  unfolding outcome report
  none_same e = reported_none (finding s (length other)) other ((none_owed_exactly s other).1 ((none_owed_exactly s room).0 (rw e)))

  pub long_rooms_alike : 1088 ≤ length other → finding s (length room) ≡ finding s (length other)
  long_rooms_alike enough = go (finding s (length room)) refl
    where
      go : (x : Checked Finding) → finding s (length room) ≡ x → finding s (length room) ≡ finding s (length other)
      go (accepts (justified ds rs)) e =
          let p = finding_proved s (length room) ds rs e in
          e ∙ rw (p.2, p.3) (sym (proved_passes s p.0 (length other) (omega (arith, entries_few s p.0))))
      go (accepts nothing_owed) e = e ∙ sym (none_same e)
      go (refuses n p) e = e ∙ sym (refuses_same e)
