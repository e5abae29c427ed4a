-- The loop ends at the lowest fault, or has passed all places: as the definition's check does. Assumes nothing.
use Rattle.std.proofs.Common.{arith, ℕ, true, false}
use mathlib.Core.Path.{◌≡◌, refl, sym}
use Rattle.definition.proofs.CheckLaws.{try_fails, try_holds}
use Rattle.definition.specs.04-Checks.{refuses, try, each}
use Rattle.words.specs.Meanings.{check_number, run_meant}
use Rattle.words.proofs.runs.each.Goals as goal

pub returns-then-fault : goal.returns-then-fault
unfolding run_meant
returns-then-fault g c = λ f agrees.
    let first = try_fails _ _ _ (refl, (c.loop-k-test.true, sym (agrees _ true c.loop-k-test.true c.if-fault.ensures), λ j below. sym (agrees j false (omega arith) (c.loop-k.invariant j below)))) in
    let told : (p : ℕ) → p ≡ c.loop-k.k → refuses (check_number c.args.check) p ≡ try (each (check_number c.args.check) c.args.count f) = λ p e. rw e (sym first) in
    told _ (omega arith)

pub returns : goal.returns
unfolding run_meant
returns g c = λ f agrees. sym (try_holds _ (λ k below. sym (agrees k false below (c.loop-k.invariant k (omega arith)))))
