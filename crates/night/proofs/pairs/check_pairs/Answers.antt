-- `check_pairs` meets its contract: no pair passed is at fault. Assumes nothing.
use Rattle.std.proofs.Common.{rules, arith, refl, below_more, Err, ◌≡◌, false}
use mathlib.Core.Path.{sym, ◌∙◌}
use Rattle.definition.proofs.CheckLaws.{try_accepts}
use Rattle.definition.specs.36-Night.{last_end, bad_pair}
use Rattle.words.specs.Meanings.{run_meant}
use Rattle.night.proofs.PairTurns.{not_at_fault, last_next, few_passed, found_bad, none_found}
use Rattle.night.proofs.pairs.check_pairs.Goals as goal
use Rattle.night.proofs.pairs.check_pairs.Goals.{In_ok-single}

fine : (c : In_ok-single) → bad_pair c.args.files.now c.args.list.now c.loop-k.k ≡ false
unfolding run_meant
fine c = sym c.bad_pair.ensures ∙ try_accepts _ (sym c.in_ok-single.ensures)

pub loop-k-init : goal.loop-k-init
unfolding last_end
loop-k-init c = record { none = λ j below. absurd (omega arith); last = refl }

pub overflow_cast-k : goal.overflow_cast-k
overflow_cast-k c = omega (arith, few_passed _ _ c.loop-k.invariant.none)

pub returns-in_err-single : goal.returns-in_err-single
returns-in_err-single c =
    let e : c.from_residual.result ≡ Err c.in_err-single.field-0.0 = search rules in
    rw e (found_bad _ _ c.loop-k.invariant.none _ (omega (arith, c.begun_pairs-k-end.ensures)) c.bad_pair.ensures c.in_err-single.ensures)

pub end_of-last-requires : goal.end_of-last-requires
end_of-last-requires c = (not_at_fault _ _ (fine c)).0

pub loop-k-preserved : goal.loop-k-preserved
loop-k-preserved c =
    record { none = below_more _ _ c.loop-k.invariant.none (fine (goal.at.loop-k-preserved c).In_ok-single); last = c.end_of-last.ensures ∙ last_next c.args.files.now _ _ }

pub returns : goal.returns
returns c = none_found _ _ c.loop-k.invariant.none (omega (arith, c.begun_pairs-k-end.ensures))
