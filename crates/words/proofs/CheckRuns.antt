-- Runs of checks joined by `?`: where the first refuses, so does the whole; where it does not, the whole is what comes behind it. Assumes nothing.
use mathlib.Core.Path.{◌≡◌, refl}
use Rattle.std.specs.Prelude.{Ok, Err, List, ◌∷◌, []}
use Rattle.definition.proofs.CheckLaws.{then_stops, then_goes_on}
use Rattle.definition.specs.04-Checks.{Checked, accepts, refuses, ◌>>◌, Check, try, in_order}
use Rattle.words.specs.declared.runs.Refusal.{Refusal}
use Rattle.words.specs.Meanings.{run_meant}

pub run_stops : {A B : Type 0} (e : Refusal) {a : Checked A} (b : Checked B) → run_meant {A = A} (Err e) ≡ a → run_meant {A = B} (Err e) ≡ ◌>>◌ a b
unfolding run_meant
run_stops e b p = then_stops b p

pub run_goes_on : {A B : Type 0} (x : A) {a : Checked A} {b : Checked B} → run_meant (Ok x) ≡ a → b ≡ ◌>>◌ a b
unfolding run_meant
run_goes_on x p = then_goes_on p

-- The same of the checks of a list.
pub checks_stop : (e : Refusal) (c : Check) (cs : List Check) → run_meant {A = Unit {0}} (Err e) ≡ try c → run_meant {A = Unit {0}} (Err e) ≡ in_order (c ∷ cs)
unfolding in_order
checks_stop e c cs p = run_stops e _ p

pub checks_go_on : (x : Unit {0}) (c : Check) (cs : List Check) → run_meant (Ok x) ≡ try c → in_order cs ≡ in_order (c ∷ cs)
unfolding in_order
checks_go_on x c cs p = run_goes_on x p

nothing_behind : (a : Checked (Unit {0})) → a ≡ ◌>>◌ a (accepts tt)
unfolding ◌>>◌
nothing_behind (accepts x) = refl
nothing_behind (refuses n p) = refl

pub last_check : (c : Check) → try c ≡ in_order (c ∷ [])
unfolding in_order
last_check c = nothing_behind (try c)
