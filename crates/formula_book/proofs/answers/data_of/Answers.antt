-- `data_of` meets its contract: the walk starts with the empty list, and with no row; a row that is not bad has few enough nodes for the table. Assumes nothing.
use native.Mathlib.Omega.{arith}
use Rattle.definition.specs.13-Formulas.{is_policy}
use Rattle.words.specs.Meanings.{run_meant}
use Rattle.formula_walks.proofs.DataWalkLaws.{starts, listed, listed_many}
use Rattle.formula_book.proofs.DataAnswerLaws.{stray_below, told_stray, told_data}
use Rattle.formula_book.proofs.WalkedRows.{walks}
use Rattle.formula_book.proofs.answers.data_of.Goals as goal

pub policy_data-all-requires : goal.policy_data-all-requires
policy_data-all-requires c = starts (walks _ _ c.requires.good_row.0 c.requires.good_row.1) c.requires.good_row.0.few c.requires.set_len

pub overflow_cast-result : goal.overflow_cast-result
overflow_cast-result c = omega (arith, stray_below c.requires.good_row.0 c.policy_data-all.ensures.lowest _ c.in-Some.is)

pub returns-in-Some : goal.returns-in-Some
unfolding run_meant
returns-in-Some c =
    let all = c.policy_data-all.ensures in
    let w = walks _ _ c.requires.good_row.0 {is = is_policy} c.requires.good_row.1 in
    (told_stray c.requires.good_row.0 all.lowest _ _ c.in-Some.is, listed w all.added)

pub returns-in-None : goal.returns-in-None
unfolding run_meant
returns-in-None c =
    let all = c.policy_data-all.ensures in
    let w = walks _ _ c.requires.good_row.0 {is = is_policy} c.requires.good_row.1 in
    (told_data c.requires.good_row.0 all.lowest c.in-None.is (listed_many w all.added), listed w all.added)
