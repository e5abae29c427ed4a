-- Reading takes all bytes that the system gives before it tells the end, however they are cut, and tells an error from the end; what is left unread is not missed. Assumes nothing.
use Prim.Native.Nat.{ℕ, ◌+◌, ◌≤◌, ◌<◌}
use mathlib.Core.Path.{◌≡◌, refl, sym, ap, subst, ◌∙◌}
use mathlib.Core.Logic.{◌⊎◌, inl, inr}
use mathlib.Core.Bool.{Bool, true, false}
use mathlib.Core.List.{List, [], ◌∷◌, ◌++◌, map, append-nil, append_assoc}
use native.Mathlib.Omega.{arith}
use lib.ListN.{length, take, length-append, length-take}
use lib.Seq.{take_all, take-append-le}
use lib.Dec.{ltb}
use borrow.Author.Tests.{ltb-true, ltb-false, lt-ltb, le-ltb}
use Rattle.definition.specs.03-Lists.{join_all}
use Rattle.definition.specs.04-Checks.{single, Fails, here}
use Rattle.definition.specs.11-Layout.{header_bytes, most_bytes, bad_length, layout_checks}
use Rattle.definition.specs.18-Admission.{checks_to_log, admission_checks}
use Rattle.definition.specs.31-Outcome.{refused, all_checks, outcome}
use Rattle.definition.specs.34-Program.{Answer, gives, error, Reading, so_far, whole, failed, filled, read_on, read_all, NoneEmpty, CutsDoNotShow, ErrorsShow, NothingHalfRead, most_read, UnreadDoesNotShow}
use Rattle.definition.proofs.Tests.{or_intro_right}
use Rattle.definition.proofs.Findings.{fault_outcome}

stays_whole : (most : ℕ) (bytes : List ℕ) (answers : List Answer) → read_all most (whole bytes) answers ≡ whole bytes
unfolding read_all read_on
stays_whole most bytes [] = refl
stays_whole most bytes (answer ∷ answers) = stays_whole most bytes answers

stays_failed : (most : ℕ) (answers : List Answer) → read_all most failed answers ≡ failed
unfolding read_all read_on
stays_failed most [] = refl
stays_failed most (answer ∷ answers) = stays_failed most answers

-- One answer more, behind the others.
pub one_more : (most : ℕ) (reading : Reading) (answers : List Answer) (answer : Answer) → read_all most reading (answers ++ answer ∷ []) ≡ read_on most (read_all most reading answers) answer
unfolding read_all
one_more most reading [] answer = refl
one_more most reading (first ∷ answers) answer = one_more most (read_on most reading first) answers answer

pub filled_more : (most : ℕ) (bytes : List ℕ) → length bytes < most → filled most bytes ≡ so_far bytes
unfolding filled
filled_more most bytes h = rw (lt-ltb (length bytes) most h)

pub filled_whole : (most : ℕ) (bytes : List ℕ) → most ≤ length bytes → filled most bytes ≡ whole (take most bytes)
unfolding filled
filled_whole most bytes h = rw (le-ltb (length bytes) most h)

pub given_on : (most : ℕ) (bytes piece : List ℕ) → 0 < length piece → read_on most (so_far bytes) (gives piece) ≡ filled most (bytes ++ piece)
unfolding read_on
given_on most bytes [] h = absurd (omega (arith, h))
given_on most bytes (b ∷ bs) h = refl

-- Where there may be more, the answer gave a byte at least, and all bytes are those before it and its own.
pub more_given :
    (most : ℕ) (bytes : List ℕ) (answer : Answer) (all : List ℕ) → so_far all ≡ read_on most (so_far bytes) answer →
    (piece : List ℕ) × (answer ≡ gives piece) × (0 < length piece) × (all ≡ bytes ++ piece)
unfolding read_on
more_given most bytes error all e = let z : ◌≡◌ {A = ℕ} 0 1 = cc in absurd (omega arith)
more_given most bytes (gives []) all e = let z : ◌≡◌ {A = ℕ} 0 1 = cc in absurd (omega arith)
more_given most bytes (gives (b ∷ bs)) all e = (b ∷ bs, refl, omega arith, go (ltb (length (bytes ++ b ∷ bs)) most) refl)
  where
    go : (t : Bool) → ltb (length (bytes ++ b ∷ bs)) most ≡ t → all ≡ bytes ++ b ∷ bs
    go true less = let more = filled_more most (bytes ++ b ∷ bs) (ltb-true (length (bytes ++ b ∷ bs)) most less) in cc
    go false less =
        let ends = filled_whole most (bytes ++ b ∷ bs) (ltb-false (length (bytes ++ b ∷ bs)) most less) in
        let z : ◌≡◌ {A = ℕ} 0 1 = cc in
        absurd (omega arith)

pieces_read :
    (most : ℕ) (bytes : List ℕ) → length bytes ≤ most → (pieces : List (List ℕ)) → NoneEmpty pieces → (behind : List Answer) →
    read_all most (so_far bytes) (map gives pieces ++ gives [] ∷ behind) ≡ whole (take most (bytes ++ join_all pieces))
unfolding read_all read_on join_all
pieces_read most bytes h [] f behind = stays_whole most bytes behind ∙ ap whole (sym (ap (take most) (append-nil bytes) ∙ take_all most bytes h))
pieces_read most bytes h ([] ∷ pieces) f behind = absurd (omega (arith, f.0))
pieces_read most bytes h ((b ∷ bs) ∷ pieces) f behind =
    go (ltb (length (bytes ++ b ∷ bs)) most) refl (λ short. pieces_read most (bytes ++ b ∷ bs) short pieces f.1 behind)
  where
    go :
        (t : Bool) → ltb (length (bytes ++ b ∷ bs)) most ≡ t →
        (length (bytes ++ b ∷ bs) ≤ most → read_all most (so_far (bytes ++ b ∷ bs)) (map gives pieces ++ gives [] ∷ behind) ≡ whole (take most (bytes ++ b ∷ bs ++ join_all pieces))) →
        read_all most (filled most (bytes ++ b ∷ bs)) (map gives pieces ++ gives [] ∷ behind) ≡ whole (take most (bytes ++ ((b ∷ bs) ++ join_all pieces)))
    go true e on =
        let next = bytes ++ b ∷ bs in
        let rest = map gives pieces ++ gives [] ∷ behind in
        let less = ltb-true (length next) most e in
        ap (λ (r : Reading). read_all most r rest) (filled_more most next less) ∙ on (omega (arith, less)) ∙ ap (λ (l : List ℕ). whole (take most l)) (append_assoc bytes (b ∷ bs) (join_all pieces))
    go false e on =
        let next = bytes ++ b ∷ bs in
        let rest = map gives pieces ++ gives [] ∷ behind in
        let full = ltb-false (length next) most e in
        ap (λ (r : Reading). read_all most r rest) (filled_whole most next full) ∙ stays_whole most (take most next) rest
        ∙ ap whole (sym (ap (take most) (sym (append_assoc bytes (b ∷ bs) (join_all pieces))) ∙ take-append-le most next (join_all pieces) full))

pub cuts_do_not_show : CutsDoNotShow
cuts_do_not_show most pieces f behind = pieces_read most [] (omega arith) pieces f behind

error_read :
    (most : ℕ) (bytes : List ℕ) (pieces : List (List ℕ)) → NoneEmpty pieces → length bytes + length (join_all pieces) < most → (behind : List Answer) →
    read_all most (so_far bytes) (map gives pieces ++ error ∷ behind) ≡ failed
unfolding read_all read_on join_all
error_read most bytes [] f h behind = stays_failed most behind
error_read most bytes ([] ∷ pieces) f h behind = absurd (omega (arith, f.0))
error_read most bytes ((b ∷ bs) ∷ pieces) f h behind =
    let both = length-append bytes (b ∷ bs) in
    let all = length-append (b ∷ bs) (join_all pieces) in
    ap (λ (r : Reading). read_all most r (map gives pieces ++ error ∷ behind)) (filled_more most (bytes ++ b ∷ bs) (omega (arith, both, all, h)))
    ∙ error_read most (bytes ++ b ∷ bs) pieces f.1 (omega (arith, both, all, h)) behind

pub errors_show : ErrorsShow
errors_show most pieces f h behind = error_read most [] pieces f (omega (arith, h)) behind

-- What was given when the bytes so far are followed by these answers.
abbrev Given : (most : ℕ) (bytes : List ℕ) (answers : List Answer) (s : List ℕ) → Type 0
Given most bytes answers s =
    (pieces : List (List ℕ)) × (behind : List Answer) × (s ≡ take most (bytes ++ join_all pieces))
    × ((answers ≡ map gives pieces ++ gives [] ∷ behind) ⊎ ((answers ≡ map gives pieces ++ behind) × (most ≤ length (bytes ++ join_all pieces))))

-- A further piece in front.
given_more : (most : ℕ) (bytes piece : List ℕ) (answers : List Answer) (s : List ℕ) → Given most (bytes ++ piece) answers s → Given most bytes (gives piece ∷ answers) s
unfolding join_all
given_more most bytes piece answers s (pieces, behind, is, how) = (piece ∷ pieces, behind, is ∙ ap (take most) (append_assoc bytes piece (join_all pieces)), ended how)
  where
    ended :
        (answers ≡ map gives pieces ++ gives [] ∷ behind) ⊎ ((answers ≡ map gives pieces ++ behind) × (most ≤ length (bytes ++ piece ++ join_all pieces))) →
        (gives piece ∷ answers ≡ map gives (piece ∷ pieces) ++ gives [] ∷ behind) ⊎ ((gives piece ∷ answers ≡ map gives (piece ∷ pieces) ++ behind) × (most ≤ length (bytes ++ (piece ++ join_all pieces))))
    ended (inl e) = inl (ap (λ (l : List Answer). gives piece ∷ l) e)
    ended (inr (e, h)) = inr (ap (λ (l : List Answer). gives piece ∷ l) e, subst (λ (l : List ℕ). most ≤ length l) (append_assoc bytes piece (join_all pieces)) h)

all_given : (most : ℕ) (bytes : List ℕ) → length bytes ≤ most → (answers : List Answer) (s : List ℕ) → read_all most (so_far bytes) answers ≡ whole s → Given most bytes answers s
unfolding read_all read_on join_all
all_given most bytes h [] s e = let z : ◌≡◌ {A = ℕ} 0 1 = cc in absurd (omega arith)
all_given most bytes h (error ∷ answers) s e = let kept = stays_failed most answers in let z : ◌≡◌ {A = ℕ} 0 1 = cc in absurd (omega arith)
all_given most bytes h (gives [] ∷ answers) s e =
    let kept = stays_whole most bytes answers in
    let same : s ≡ bytes = cc in
    ([], answers, same ∙ sym (ap (take most) (append-nil bytes) ∙ take_all most bytes h), inl refl)
all_given most bytes h (gives (b ∷ bs) ∷ answers) s e =
    given_more most bytes (b ∷ bs) answers s (go (ltb (length (bytes ++ b ∷ bs)) most) refl (λ short on. all_given most (bytes ++ b ∷ bs) short answers s on))
  where
    go :
        (t : Bool) → ltb (length (bytes ++ b ∷ bs)) most ≡ t →
        (length (bytes ++ b ∷ bs) ≤ most → read_all most (so_far (bytes ++ b ∷ bs)) answers ≡ whole s → Given most (bytes ++ b ∷ bs) answers s) →
        Given most (bytes ++ b ∷ bs) answers s
    go true less on =
        let next = bytes ++ b ∷ bs in
        let short = ltb-true (length next) most less in
        on (omega (arith, short)) (ap (λ (r : Reading). read_all most r answers) (sym (filled_more most next short)) ∙ e)
    go false less on =
        let next = bytes ++ b ∷ bs in
        let full = ltb-false (length next) most less in
        let kept = stays_whole most (take most next) answers in
        let ends = ap (λ (r : Reading). read_all most r answers) (sym (filled_whole most next full)) ∙ e in
        let same : s ≡ take most next = cc in
        let all : next ≡ next ++ [] = sym (append-nil next) in
        ([], answers, same ∙ ap (take most) all, inr (refl, subst (λ (l : List ℕ). most ≤ length l) all full))

pub nothing_half_read : NothingHalfRead
nothing_half_read most answers bytes e = all_given most [] (omega arith) answers bytes e

-- A file whose length is at fault is refused by check 1; so one that is too long.
pub length_refused : (s room : List ℕ) → bad_length s ≡ true → outcome s room ≡ record { verdict = refused 1 0; room = room }
unfolding all_checks admission_checks checks_to_log layout_checks
length_refused s room e =
    let fails : Fails (single 1 0 (bad_length s)) 1 0 = (refl, refl, e) in
    fault_outcome s room (here fails)

too_long : (s room : List ℕ) → most_bytes < length s → outcome s room ≡ record { verdict = refused 1 0; room = room }
unfolding bad_length
too_long s room h = length_refused s room (or_intro_right (ltb (length s) header_bytes) (lt-ltb most_bytes (length s) h))

pub unread_does_not_show : UnreadDoesNotShow
unread_does_not_show s room = go (ltb most_bytes (length s)) refl
  where
    go : (t : Bool) → ltb most_bytes (length s) ≡ t → outcome (take most_read s) room ≡ outcome s room
    go true e =
        let long = ltb-true most_bytes (length s) e in
        too_long (take most_read s) room (simp length-take (omega (arith, long))) ∙ sym (too_long s room long)
    go false e = ap (λ (l : List ℕ). outcome l room) (take_all most_read s (omega (arith, ltb-false most_bytes (length s) e)))
