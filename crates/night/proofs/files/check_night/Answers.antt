-- `check_night` meets its contract: check 33, and then the files; demand 3 comes with the definition's night. Assumes nothing.
use Rattle.std.proofs.Common.{rules, arith, Err, ◌≡◌}
use mathlib.Core.Path.{sym}
use Rattle.definition.proofs.NightPairs.{files_few}
use Rattle.definition.specs.71-Nights.{lent_for, Sound}
use Rattle.words.specs.Meanings.{run_meant}
use Rattle.night.proofs.FileTurns.{refused_night, checked_night}
use Rattle.night.proofs.files.check_night.Goals as goal
use Rattle.night.proofs.files.check_night.Goals.{In_ok-check_pairs}

-- Where check 33 lets the list pass.
sound : (c : In_ok-check_pairs) → Sound (lent_for c.args.files.now c.args.list.now c.args.verdicts.now c.args.room.now)
unfolding run_meant
sound c = sym c.in_ok-check_pairs.ensures

pub returns-in_err-check_pairs : goal.returns-in_err-check_pairs
returns-in_err-check_pairs c =
    let e : c.from_residual.result ≡ Err c.in_err-check_pairs.field-0.0 = search rules in
    rw e (refused_night (lent_for c.args.files.now c.args.list.now c.args.verdicts.now c.args.room.now) _ c.in_err-check_pairs.ensures)

pub check_files-requires : goal.check_files-requires
check_files-requires c = (sound (goal.at.check_files-requires c).In_ok-check_pairs, c.requires)

pub overflow_cast-result : goal.overflow_cast-result
overflow_cast-result c =
    omega (arith, files_few (lent_for c.args.files.now c.args.list.now c.args.verdicts.now c.args.room.now) (sound (goal.at.overflow_cast-result c).In_ok-check_pairs), c.whole_pairs.ensures)

pub returns : goal.returns
returns c =
    checked_night (lent_for c.args.files.now c.args.list.now c.args.verdicts.now c.args.room.now) _ _ _ (sound (goal.at.returns c).In_ok-check_pairs) c.whole_pairs.ensures c.check_files.ensures
