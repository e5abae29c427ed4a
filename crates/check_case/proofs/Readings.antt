-- One answer taken into the buffer is one step of the definition's reading, and a run of them is the reading of all. Assumes nothing.
use Prim.Native.Nat.{ℕ, ◌+◌, ◌-◌, ◌≤◌, ◌<◌}
use mathlib.Core.Path.{◌≡◌, refl, sym, ap, subst, ◌∙◌}
use mathlib.Core.Bool.{true, false}
use mathlib.Core.List.{List, [], ◌∷◌, ◌++◌, map, append-nil, append_assoc}
use native.Mathlib.Omega.{arith}
use lib.ListN.{length, take, length-append}
use lib.Seq.{sets, sets-eq, length-sets, length-take-le, take_all, take_at}
use Rattle.std.proofs.lemmas.List.{take_min}
use lib.IntN.{ℤ, pos, negsuc}
use lib.Signed.{lt_z}
use lib.Dec.{T}
use borrow.Author.Tests.{ltb-true}
use Rattle.definition.specs.03-Lists.{join_all}
use Rattle.definition.specs.34-Program.{Answer, gives, error, so_far, whole, read_on, read_all, NoneEmpty}
use Rattle.definition.proofs.ReadingLaws.{one_more, filled_more, filled_whole, given_on, more_given}
use Rattle.check_case.specs.Input.{reading_meant, clamp_len, answer_meant, answer_within, given, Taken, Ended, ReadFrom}
use Rattle.check_case.specs.Written.{Written}
use Rattle.check_case.specs.declared.input.Reading.{Reading}
use Rattle.check_case.specs.declared.input.Reading.TheVariants.{More, Whole, Failed}
use Rattle.check_case.proofs.WrittenText.{sets_append, kept}

-- What the answer counts, as far as the piece goes.
pub answer_counts : (z : ℤ) (piece : List ℕ) → lt_z z (pos 0) ≡ false → answer_meant z piece ≡ gives (take (clamp_len z (length piece)) piece)
answer_counts (pos n) piece e = ap gives (sym (take_min n piece))
answer_counts (negsuc n) piece e = absurd (subst T e tt)

answer_fails : (z : ℤ) (piece : List ℕ) → lt_z z (pos 0) ≡ true → answer_meant z piece ≡ error
answer_fails (pos n) piece e = absurd (omega (arith, ltb-true n 0 e))
answer_fails (negsuc n) piece e = refl

pub taken_error : (done : ℕ) (z : ℤ) (piece buffer : List ℕ) → lt_z z (pos 0) ≡ true → Taken done (answer_meant z piece) buffer buffer Failed
unfolding read_on
taken_error done z piece buffer e =
    subst (λ (a : Answer). Taken done a buffer buffer Failed) (sym (answer_fails z piece e)) (record { reading = refl; held = tt; buffer = refl })

pub taken_end :
    (done : ℕ) (z : ℤ) (piece buffer : List ℕ) → lt_z z (pos 0) ≡ false → clamp_len z (length piece) ≡ 0 → done ≤ length buffer →
    Taken done (answer_meant z piece) buffer buffer (Whole done)
unfolding read_on
taken_end done z piece buffer e none h =
    subst (λ (a : Answer). Taken done a buffer buffer (Whole done)) (sym (answer_counts z piece e ∙ ap (λ (k : ℕ). gives (take k piece)) none))
    (record { reading = refl; held = h; buffer = refl })

-- The bytes up to the end of what was written are those before and it.
module _ (before after bytes : List ℕ) (done end : ℕ) (w : Written before done bytes after end) (fits : done + length bytes ≤ length before) where
  joined_length : length (take done before ++ bytes) ≡ end
  joined_length = length-append (take done before) bytes ∙ omega (arith, w.ends, length-take-le done before (omega (arith, fits)))

  joined_is : take end after ≡ take done before ++ bytes
  joined_is =
      ap (take end) (w.is ∙ sets-eq bytes before done fits)
      ∙ take_at (take done before ++ bytes) _ end joined_length

  taken_more : 0 < length bytes → end < length after → Taken done (gives bytes) before after (More end)
  taken_more some room =
      record {
        reading =
            ap so_far joined_is
            ∙ sym (filled_more (length before) (take done before ++ bytes) (omega (arith, joined_length, kept w, room)))
            ∙ sym (given_on (length before) (take done before) bytes some);
        held = room;
        buffer = w.is;
      }

  taken_full : 0 < length bytes → length after ≤ end → Taken done (gives bytes) before after (Whole end)
  taken_full some full =
      let all = take done before ++ bytes in
      record {
        reading =
            ap whole (joined_is ∙ sym (take_all (length before) all (omega (arith, joined_length, w.ends, fits))))
            ∙ sym (filled_whole (length before) all (omega (arith, joined_length, kept w, full)))
            ∙ sym (given_on (length before) (take done before) bytes some);
        held = omega (arith, w.ends, fits, kept w);
        buffer = w.is;
      }

-- The same, for the bytes that the answer counts.
module _
    (done : ℕ) (z : ℤ) (piece before after : List ℕ) (more end : ℕ) (e : lt_z z (pos 0) ≡ false) (counts : more ≡ clamp_len z (length piece))
    (within : more ≤ length piece) (some : 0 < more) (w : Written before done (take more piece) after end)
    (fits : done + length piece ≤ length before) where
  counted : gives (take more piece) ≡ answer_meant z piece
  counted = ap (λ (k : ℕ). gives (take k piece)) counts ∙ sym (answer_counts z piece e)

  exactly : length (take more piece) ≡ more
  exactly = length-take-le more piece within

  pub taken_bytes : end < length after → Taken done (answer_meant z piece) before after (More end)
  taken_bytes room = subst (λ (a : Answer). Taken done a before after (More end)) counted (taken_more before after (take more piece) done end w (omega (arith, exactly)) (omega (arith, exactly)) room)

  pub taken_last : length after ≤ end → Taken done (answer_meant z piece) before after (Whole end)
  taken_last full = subst (λ (a : Answer). Taken done a before after (Whole end)) counted (taken_full before after (take more piece) done end w (omega (arith, exactly)) (omega (arith, exactly)) full)

-- There is more to read, so the answer gave a byte, and the bytes counted are those before and its.
more_counted :
    {done count : ℕ} {answer : Answer} {before after : List ℕ} → done ≤ length before → Taken done answer before after (More count) →
    (piece : List ℕ) × (answer ≡ gives piece) × (0 < length piece) × (count ≡ done + length piece)
more_counted {done} {count} {answer} {before} {after} h t = go (more_given (length before) (take done before) answer (take count after) t.reading)
  where
    go :
        (piece : List ℕ) × (answer ≡ gives piece) × (0 < length piece) × (take count after ≡ take done before ++ piece) →
        (piece : List ℕ) × (answer ≡ gives piece) × (0 < length piece) × (count ≡ done + length piece)
    go (piece, is, some, all) =
        let long : count ≡ done + length piece =
        sym (length-take-le count after (omega (arith, t.held))) ∙ ap length all ∙ length-append (take done before) piece ∙ ap (λ (k : ℕ). k + length piece) (length-take-le done before h) in
        (piece, is, some, long)

pub more_done : {done count : ℕ} {answer : Answer} {before after : List ℕ} → done ≤ length before → Taken done answer before after (More count) → done < count
more_done h t = let m = more_counted h t in omega (arith, m.2, m.3)

join_snoc : (pieces : List (List ℕ)) (piece : List ℕ) → join_all (pieces ++ piece ∷ []) ≡ join_all pieces ++ piece
unfolding join_all
join_snoc [] piece = append-nil piece
join_snoc (first ∷ pieces) piece = ap (λ (l : List ℕ). first ++ l) (join_snoc pieces piece) ∙ sym (append_assoc first (join_all pieces) piece)

gives_snoc : (pieces : List (List ℕ)) (piece : List ℕ) → map gives (pieces ++ piece ∷ []) ≡ map gives pieces ++ gives piece ∷ []
gives_snoc [] piece = refl
gives_snoc (first ∷ pieces) piece = ap (λ (l : List Answer). gives first ∷ l) (gives_snoc pieces piece)

none_empty_snoc : (pieces : List (List ℕ)) (piece : List ℕ) → NoneEmpty pieces → 0 < length piece → NoneEmpty (pieces ++ piece ∷ [])
none_empty_snoc [] piece n h = (h, tt)
none_empty_snoc (first ∷ pieces) piece n h = (n.0, none_empty_snoc pieces piece n.1 h)

-- The pieces so far: they have not ended the reading, and the buffer has their bytes.
pub record SoFar (pieces : List (List ℕ)) (before buffer : List ℕ) (done : ℕ) : Type 0 where
  pub none_empty : NoneEmpty pieces
  pub within : done < length buffer
  pub counted : done ≡ length (join_all pieces)
  pub reading : read_all (length before) (so_far []) (map gives pieces) ≡ so_far (take done buffer)
  pub stored : buffer ≡ sets before 0 (join_all pieces)

pub none_yet : (buffer : List ℕ) → 0 < length buffer → SoFar [] buffer buffer 0
unfolding read_all join_all
none_yet buffer h = record { none_empty = tt; within = h; counted = refl; reading = refl; stored = refl }

module _ {pieces : List (List ℕ)} {before buffer after : List ℕ} {done : ℕ} {answer : Answer} {r : Reading} (s : SoFar pieces before buffer done) (t : Taken done answer buffer after r) where
  as_long : length buffer ≡ length before
  as_long = ap length s.stored ∙ length-sets before 0 (join_all pieces)

  on : reading_meant r after ≡ read_all (length before) (so_far []) (map gives pieces ++ answer ∷ [])
  on =
      t.reading
      ∙ ap (λ (n : ℕ). read_on n (so_far (take done buffer)) answer) as_long
      ∙ ap (λ x. read_on (length before) x answer) (sym s.reading)
      ∙ sym (one_more (length before) (so_far []) (map gives pieces) answer)

  stored_on : after ≡ sets before 0 (join_all pieces ++ given answer)
  stored_on =
      t.buffer
      ∙ ap (λ (l : List ℕ). sets l done (given answer)) s.stored
      ∙ ap (λ (k : ℕ). sets (sets before 0 (join_all pieces)) k (given answer)) (s.counted ∙ omega arith)
      ∙ sym (sets_append before 0 (join_all pieces) (given answer))

-- One piece more.
pub and_more :
    {pieces : List (List ℕ)} {before buffer after : List ℕ} {done count : ℕ} {answer : Answer} → SoFar pieces before buffer done → Taken done answer buffer after (More count) →
    (more : List (List ℕ)) × SoFar more before after count
and_more {pieces} {before} {buffer} {after} {done} {count} {answer} s t = go (more_counted (omega (arith, s.within)) t)
  where
    go : (piece : List ℕ) × (answer ≡ gives piece) × (0 < length piece) × (count ≡ done + length piece) → (more : List (List ℕ)) × SoFar more before after count
    go (piece, is, some, long) = (
      pieces ++ piece ∷ [],
      record {
        none_empty = none_empty_snoc pieces piece s.none_empty some;
        within = t.held;
        counted = long ∙ ap (λ (k : ℕ). k + length piece) s.counted ∙ sym (ap length (join_snoc pieces piece) ∙ length-append (join_all pieces) piece);
        reading = ap (read_all (length before) (so_far [])) (gives_snoc pieces piece ∙ ap (λ (a : Answer). map gives pieces ++ a ∷ []) (sym is)) ∙ sym (on s t);
        stored = stored_on s t ∙ ap (sets before 0) (ap (λ (a : Answer). join_all pieces ++ given a) is ∙ sym (join_snoc pieces piece));
      },
    )

-- The last answer.
pub and_ended :
    {pieces : List (List ℕ)} {before buffer after piece : List ℕ} {done : ℕ} {got : ℤ} {r : Reading} → SoFar pieces before buffer done →
    Taken done (answer_within (length buffer - done) got piece) buffer after r → Ended r → ReadFrom got piece before after r
and_ended {pieces} {before} {buffer} {after} {piece} {done} {got} {r} s t e =
    let long = as_long s t in
    let room : length buffer - done ≡ length before - length (join_all pieces) = omega (arith, long, s.counted) in
    let u = subst (λ (n : ℕ). Taken done (answer_within n got piece) buffer after r) room t in
    record {
      pieces = pieces;
      none_empty = s.none_empty;
      unfilled = omega (arith, long, s.counted, s.within);
      reading = on s u;
      ended = e;
      held = t.held;
      buffer = stored_on s u;
    }
