-- What an entry point promises: its answer is the definition's, and demand 3 is part of the promise.
use Rattle.std.specs.Prelude.{ℕ, ◌≡◌, ◌⊎◌, List}
use Rattle.definition.specs.04-Checks.{Checked}
use Rattle.definition.specs.31-Outcome.{Verdict}
use Rattle.definition.specs.44-Demands.{Entry, checking, admitting}

-- Of any entry point, lent the input i: what it gives, by what an answer stands for, is the definition's answer;
-- it is the answer to every input that is alike to the agent, unless one of the two is left aside; and the answer to the input with every unseen row struck out, unless that mends it.
pub record Promised {I A B : Type 0} (e : Entry I A) (meant : A → B) (i : I) (given : B) : Type 0 where
  pub is : given ≡ meant (e.answer i)
  pub alike : (j : I) → e.is_alike i j → (e.is_aside i → ⊥) → (e.is_aside j → ⊥) → given ≡ meant (e.answer j)
  pub struck : (given ≡ meant (e.answer (e.strike_out i))) ⊎ e.is_mended i

-- Of one that answers a file and a room: the answer, by what a verdict stands for, and every entry of the room.
abbrev pub Answered : {A : Type 0} (meant : Verdict → A) (s room : List ℕ) (answer : A) (after : List ℕ) → Type 0
Answered {A} meant s room answer after = Promised {B = A × List ℕ} checking (λ o. (meant o.verdict, o.room)) (record { file = s; room = room }) (answer, after)

-- Of one that answers a file alone, by checks 1 to 9.
abbrev pub AdmissionAnswered : {A : Type 0} (meant : Checked (Unit {0}) → A) (s : List ℕ) (answer : A) → Type 0
AdmissionAnswered meant s answer = Promised admitting meant s answer
