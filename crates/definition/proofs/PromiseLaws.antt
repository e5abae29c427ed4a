-- The promises of entry points: demand 3 comes with the definition's answer. Assumes nothing.
use Prim.Native.Nat.{ℕ}
use mathlib.Core.Path.{◌≡◌, ap, ◌∙◌}
use mathlib.Core.Logic.{inl, inr, ⊎_elim}
use mathlib.Core.List.{List}
use Rattle.definition.proofs.UnseenRows.{unseen_rows_are_unseen, as_if_struck}
use Rattle.definition.specs.04-Checks.{Checked}
use Rattle.definition.specs.18-Admission.{admission}
use Rattle.definition.specs.31-Outcome.{Verdict, outcome}
use Rattle.definition.specs.44-Demands.{Entry, HidesRows, AnswersStruck, checking, admitting}
use Rattle.definition.specs.45-Promises.{Promised, Answered, AdmissionAnswered}

-- Of any entry point of which demand 3 holds.
pub promised : {I A B : Type 0} (e : Entry I A) → HidesRows e → AnswersStruck e → (meant : A → B) (i : I) (given : B) → given ≡ meant (e.answer i) → Promised e meant i given
promised e hides struck meant i given is =
    record {
      is = is;
      alike = λ j a w v. is ∙ ap meant (hides i j a w v);
      struck = ⊎_elim (λ same. inl (is ∙ ap meant same)) (λ m. inr m) (struck i);
    }

-- The whole answer: the outcome, by what a verdict stands for.
pub answered : {A : Type 0} (meant : Verdict → A) (s room : List ℕ) (a : A) (after : List ℕ) → a ≡ meant (outcome s room).verdict → after ≡ (outcome s room).room → Answered meant s room a after
answered meant s room a after e f = promised checking unseen_rows_are_unseen.0 as_if_struck.0 _ _ _ (λ i. (e i, f i))

-- What it says of the answer, and of the room.
pub answer_is : {A : Type 0} (meant : Verdict → A) {s room : List ℕ} {a : A} {after : List ℕ} → Answered meant s room a after → a ≡ meant (outcome s room).verdict
answer_is meant h = ap (λ x. x.0) h.is

pub room_is : {A : Type 0} (meant : Verdict → A) {s room : List ℕ} {a : A} {after : List ℕ} → Answered meant s room a after → after ≡ (outcome s room).room
room_is meant h = ap (λ x. x.1) h.is

-- An answer that stands for an answer.
pub answered_as : {A : Type 0} (meant : Verdict → A) {s room : List ℕ} {v : Verdict} {a : A} {after : List ℕ} → a ≡ meant v → Answered (λ x. x) s room v after → Answered meant s room a after
answered_as meant e h = answered meant _ _ _ _ (e ∙ ap meant (answer_is (λ x. x) h)) (room_is (λ x. x) h)

-- The same of an admission.
pub admission_answered : {A : Type 0} (meant : Checked (Unit {0}) → A) (s : List ℕ) (a : A) → a ≡ meant (admission s) → AdmissionAnswered meant s a
admission_answered meant s a e = promised admitting unseen_rows_are_unseen.1 as_if_struck.1 meant s a e
