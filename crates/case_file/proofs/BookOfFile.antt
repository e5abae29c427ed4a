-- A number names the same tree in the file as in its book, so an answer about the one is an answer about the other. Assumes nothing.
use Prim.Native.Nat.{ℕ}
use mathlib.Core.Path.{◌≡◌, ap, ◌∙◌}
use mathlib.Core.Bool.{Bool, ◌&&◌, and_comm}
use mathlib.Core.List.{List}
use Rattle.definition.specs.13-Formulas.{Formula, closed}
use Rattle.definition.specs.14-Book.{tree_in, book}
use Rattle.case_file.specs.Booked.{Booked}
use Rattle.definition.specs.15-Records.{formulas}

pub named : {s b : List ℕ} {v w : ℕ} → Booked s b → v ≡ w → tree_in (book b) v ≡ tree_in (formulas s) w
unfolding formulas
named k e = cc (k.is, e)

pub closed_named :
    {s b : List ℕ} {v w : ℕ} {q : Bool} (is : Formula → Bool) → Booked s b → v ≡ w →
    q ≡ is (tree_in (book b) v) && closed (tree_in (book b) v) → q ≡ closed (tree_in (formulas s) w) && is (tree_in (formulas s) w)
closed_named {s} {b} {v} {w} is k e answer =
    answer ∙ and_comm (is (tree_in (book b) v)) (closed (tree_in (book b) v)) ∙ ap (λ (f : Formula). closed f && is f) (named k e)
