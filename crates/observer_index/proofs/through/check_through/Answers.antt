-- `check_through` meets its contract: the admission, and what follows it; demand 3 comes with the outcome. Assumes nothing.
use Rattle.std.proofs.Common.{rules, Err}
use mathlib.Core.Path.{◌≡◌, sym}
use Rattle.words.specs.Meanings.{run_meant}
use Rattle.observer_index.proofs.ThroughRuns.{reported_answer, refused_answer}
use Rattle.observer_index.proofs.through.check_through.Goals as goal

pub returns-in_err-admit : goal.returns-in_err-admit
returns-in_err-admit c =
    let e : c.from_residual.result ≡ Err c.in_err-admit.field-0.0 = search rules in
    rw e (refused_answer _ _ _ _ c.in_err-admit.ensures)

pub check_with-requires : goal.check_with-requires
unfolding run_meant
check_with-requires c = sym c.in_ok-admit.ensures

pub returns : goal.returns
returns c = reported_answer _ _ _ _ _ c.check_with.ensures
