-- `names_again` meets its contract: another mark, no row, or a row that is marked. Assumes nothing.
use Prim.Native.Nat.{◌<◌}
use mathlib.Core.Path.{◌≡◌, ap, ◌∙◌}
use mathlib.Core.Bool.{false, not}
use native.Mathlib.Omega.{arith}
use lib.Dec.{eqb}
use borrow.Author.Tests.{eq-eqb, ne_eqb}
use Rattle.definition.specs.15-Records.{log_of, rows_in, bad_row_named}
use Rattle.case_file.proofs.Laws.{named_inside, row_named_good}
use Rattle.case_file.proofs.LentCaseLaws.{parted, rows_few}
use Rattle.duties.proofs.NamedRows.{other_mark, no_row, row_told}
use Rattle.duties.proofs.named.names_again.Goals as goal
use Rattle.duties.proofs.named.names_again.Goals.{Then-duty, then-duty-eq1, else-duty-eq1}

-- The row is one of the table's.
row_below : (c : Then-duty) → c.obligation_at-duty.result.row < 1024
row_below c =
    let lent = c.args.case.now.lent.lent in
    let rows = rows_in (log_of c.args.case.now.file.now) in
    let good = ap (bad_row_named rows) c.obligation_at-duty.ensures.row ∙ row_named_good _ lent.admitted _ c.requires.below in
    omega (arith, named_inside rows _ good c.if-duty.true.1, rows_few _ (parted lent))

pub bounds-named-duty : goal.bounds-named-duty
bounds-named-duty c = row_below (goal.at.bounds-named-duty c).Then-duty

pub returns-then-duty : goal.returns-then-duty
returns-then-duty c = let d = c.obligation_at-duty.ensures in
    row_told _ _ c.requires.named_before d.mark c.if-duty.true.0 d.row c.if-duty.true.1 c.replace.ensures.value c.replace.ensures.after (omega (arith, row_below (goal.at.returns-then-duty c).Then-duty, c.requires.named_before.long))

pub returns-else-duty : goal.returns-else-duty
returns-else-duty c = let d = c.obligation_at-duty.ensures in
    elim c.if-duty-eq1.branch [
      | then-duty-eq1 w ↦
          let gone : c.obligation_at-duty.result.row ≡ 65535 = omega arith in
          let none = no_row _ _ c.requires.named_before d.row gone in
          let test : not (eqb c.obligation_at-duty.result.row 65535) ≡ false = ap not (eq-eqb _ _ gone) in
          (cc (none.0), none.1)
      | else-duty-eq1 w ↦
          let other = other_mark _ _ c.requires.named_before d.mark w.if-duty-eq1.false in
          let test : eqb c.obligation_at-duty.result.mark 1 ≡ false = ne_eqb _ _ w.if-duty-eq1.false in
          (cc (other.0), other.1)
    ]
