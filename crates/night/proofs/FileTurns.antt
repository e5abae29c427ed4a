-- One file, and the loop over the files: the table and the room after the first k files, and one more. Assumes nothing.
use Prim.Native.Nat.{ℕ, ◌+◌, ◌-◌, ◌≤◌, ◌<◌}
use mathlib.Core.Path.{◌≡◌, refl, sym, ap, ap₂, ◌∙◌}
use mathlib.Core.List.{List, ◌++◌}
use native.Mathlib.Omega.{arith}
use lib.ListN.{length, take, drop, set}
use borrow.Rule.Slice.PartMut.{mid_of, put_mid}
use Rattle.checker.specs.Meanings.{verdict_meant}
use Rattle.checker.specs.declared.verdict.Verdict.{Verdict}
use Rattle.definition.proofs.LaidLists.{laid}
use Rattle.definition.proofs.NightFiles as files
use Rattle.definition.proofs.NightFiles.{table_after, room_after, night_is}
use Rattle.definition.proofs.NightPromises.{night_answered}
use Rattle.definition.proofs.PromiseLaws.{answer_is, room_is}
use Rattle.definition.specs.04-Checks.{accepts, refuses, in_order}
use Rattle.definition.specs.31-Outcome.{outcome}
use Rattle.definition.specs.32-Numbers.{verdict_entry}
use Rattle.definition.specs.36-Night.{pair_offset, pair_length, pair_end, pair_checks, file_at, entries_of, Night, told, night}
use Rattle.definition.specs.45-Promises.{Answered}
use Rattle.definition.specs.71-Nights.{NightLent, night_of, Sound, files_in, file, began, alone, NightAnswered}
use Rattle.std.specs.Prelude.{Result, Ok, Err}
use Rattle.words.specs.Meanings.{check_number, run_meant}
use Rattle.words.specs.declared.runs.Refusal.{Refusal}
use Rattle.words.proofs.LentParts.{lent_part, part_back}
use Rattle.night.specs.Nights.{CheckedAlone, AllTold}

-- The bytes between the ends that a pair has are its file's.
module _ (files list : List ℕ) (k : ℕ) {a e : ℕ} (begins : a ≡ pair_offset list k) (ends : e ≡ pair_end list k) where
  pub its_bytes : mid_of a (e - a) files ≡ file_at files list k
  unfolding file_at pair_end
  its_bytes = let long : e - a ≡ pair_length list k = omega arith in rw (long, begins)

  pub checked_alone : {room after : List ℕ} {r : Result Verdict Refusal} → Answered (λ v. v) (mid_of a (e - a) files) room (verdict_meant r) after → CheckedAlone (file_at files list k) room r after
  checked_alone {room} h = record { is = answer_is (λ v. v) h ∙ ap (λ (s : List ℕ). (outcome s room).verdict) its_bytes; room_is = room_is (λ v. v) h ∙ ap (λ (s : List ℕ). (outcome s room).room) its_bytes }

module _ (i : NightLent) where
  -- The first k files are told, and d is where the passes among them stopped writing.
  pub record Told (verdicts : List (List ℕ)) (room : List ℕ) (d k : ℕ) : Type 0 where
    pub within : k ≤ files_in i
    pub at : d ≡ began i k
    pub verdicts_are : verdicts ≡ table_after i k
    pub room_is : room ≡ room_after i k
    pub verdicts_long : length verdicts ≡ length i.verdicts
    pub room_long : length room ≡ length i.room
    pub inside : d ≤ length room

  told_by : {verdicts : List (List ℕ)} {room : List ℕ} {d k : ℕ} → k ≤ files_in i → k ≤ length i.verdicts → d ≡ began i k → verdicts ≡ table_after i k → room ≡ room_after i k → Told verdicts room d k
  told_by {k = k} within fits at vs rs =
      let long = ap length rs ∙ files.room_long i k in
      record {
        within = within;
        at = at;
        verdicts_are = vs;
        room_is = rs;
        verdicts_long = ap length vs ∙ files.table_long i k fits;
        room_long = long;
        inside = omega (arith, at, files.began_fits i k);
      }

  pub told_start : Told i.verdicts i.room 0 0
  unfolding laid began
  told_start = told_by (omega arith) (omega arith) refl refl refl

  module _ (verdicts : List (List ℕ)) (room : List ℕ) (d k : ℕ) (t : Told verdicts room d k) where
    -- The part lent is as it was at first.
    part_is : mid_of d (length room - d) room ≡ drop (began i k) i.room
    part_is = lent_part d room ∙ ap₂ (λ (n : ℕ) (l : List ℕ). drop n l) t.at t.room_is ∙ files.part_kept i k

    module _ (v : Result Verdict Refusal) (after : List ℕ) (h : CheckedAlone (file i k) (mid_of d (length room - d) room) v after) where
      verdict_is : verdict_meant v ≡ (alone i k).verdict
      verdict_is = h.is ∙ ap (λ (l : List ℕ). (outcome (file i k) l).verdict) part_is

      after_is : after ≡ (alone i k).room
      after_is = h.room_is ∙ ap (λ (l : List ℕ). (outcome (file i k) l).room) part_is

      module _ (n : ℕ) (wrote : n ≡ entries_of (verdict_meant v)) where
        began_more : d + n ≡ began i (k + 1)
        began_more = omega (arith, t.at, wrote, ap entries_of verdict_is, files.began_next i k)

        -- So the sum is no more than the room has.
        pub still_inside : d + n ≤ length room
        still_inside = omega (arith, began_more, files.began_fits i (k + 1), t.room_long)

        pub told_more : k < files_in i → k < length i.verdicts → (entry : List ℕ) → entry ≡ verdict_entry (verdict_meant v) → Told (set verdicts k entry) (put_mid d (length room - d) room after) (d + n) (k + 1)
        told_more lt fits entry e =
            told_by (omega arith) (omega arith) began_more
            (ap₂ (λ (l : List (List ℕ)) (x : List ℕ). set l k x) t.verdicts_are (e ∙ ap verdict_entry verdict_is) ∙ files.table_more i k fits)
            (part_back d room after t.inside
            ∙ ap₂ (λ (m : ℕ) (l : List ℕ). take m l ++ after) t.at t.room_is ∙ ap (λ (l : List ℕ). take (began i k) (room_after i k) ++ l) after_is
            ∙ files.room_more i k)

    -- After the last file.
    pub told_all : Sound i → files_in i ≤ k → AllTold i verdicts room
    told_all sound le =
        let all : k ≡ files_in i = omega (arith, t.within) in
        let is = night_is i sound in
        record {
          verdicts_are = t.verdicts_are ∙ ap (table_after i) all ∙ ap (λ (x : Night). x.verdicts) (sym is);
          room_is = t.room_is ∙ ap (room_after i) all ∙ ap (λ (x : Night). x.room) (sym is);
        }

-- What a night's call answers where 33 comes, and where it does not.
pub refused_night : (i : NightLent) (r : Refusal) → run_meant {A = Unit {0}} (Err r) ≡ in_order (pair_checks i.files i.list) → NightAnswered (λ c. c) i (run_meant (Err r)) i.verdicts i.room
unfolding night told run_meant
refused_night i r e =
    let is : night_of i ≡ record { answer = refuses (check_number r.check) r.place; verdicts = i.verdicts; room = i.room } = rw (← e) in
    night_answered (λ c. c) i _ _ _ (ap (λ (x : Night). x.answer) (sym is)) (ap (λ (x : Night). x.verdicts) (sym is)) (ap (λ (x : Night). x.room) (sym is))

pub checked_night :
    (i : NightLent) (n : ℕ) (verdicts : List (List ℕ)) (room : List ℕ) → Sound i → n ≡ files_in i → AllTold i verdicts room →
    NightAnswered (λ c. c) i (run_meant (Ok n)) verdicts room
unfolding run_meant
checked_night i n verdicts room sound is t = night_answered (λ c. c) i _ _ _ (ap accepts is ∙ ap (λ (x : Night). x.answer) (sym (night_is i sound))) t.verdicts_are t.room_is
