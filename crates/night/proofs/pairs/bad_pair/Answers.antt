-- `bad_pair` meets its contract: each test is a fault, and where none finds one the end decides. Assumes nothing.
use Rattle.std.proofs.Common.{arith}
use mathlib.Core.Path.{sym, ap, ◌∙◌}
use mathlib.Core.Bool.{true≢false}
use mathlib.Core.Logic.{inl, inr}
use lib.Dec.{ltb}
use borrow.Author.Tests.{ltb-true, ltb-false, leb-true, leb-false}
use Rattle.definition.specs.36-Night.{whole_pairs}
use Rattle.night.proofs.PairTurns.{at_fault, early, by_end}
use Rattle.night.proofs.pairs.bad_pair.Goals as goal
use Rattle.night.proofs.pairs.bad_pair.Goals.{then-k-ge-MOST_FILES, else-k-ge-MOST_FILES, then-whole_pairs-k, else-whole_pairs-k}

pub returns-then-offset_of-last : goal.returns-then-offset_of-last
unfolding whole_pairs
returns-then-offset_of-last c =
    c.if-offset_of-last.true
    ∙ elim c.if-whole_pairs-k.branch [
      | then-whole_pairs-k w ↦ elim c.if-k-ge-MOST_FILES.branch [
        | then-k-ge-MOST_FILES v ↦ at_fault _ _ (inr (inr (inr v.if-k-ge-MOST_FILES.true)))
        | else-k-ge-MOST_FILES v ↦ at_fault _ _ (inr (inr (inl (omega (arith, v.whole_pairs.ensures, leb-true _ _ (sym v.value-is ∙ w.if-whole_pairs-k.true))))))
      ]
      | else-whole_pairs-k w ↦ early _ _ _ (omega (arith, w.offset_of.ensures, c.requires, ltb-true _ _ (sym w.value-is ∙ c.if-offset_of-last.true)))
    ]

pub returns-else-offset_of-last : goal.returns-else-offset_of-last
returns-else-offset_of-last c =
    elim c.if-whole_pairs-k.branch [
      | then-whole_pairs-k w ↦ absurd (true≢false (sym w.if-whole_pairs-k.true ∙ sym w.value-is ∙ c.if-offset_of-last.false))
      | else-whole_pairs-k w ↦ elim c.if-k-ge-MOST_FILES.branch [
        | then-k-ge-MOST_FILES v ↦ absurd (omega (arith, v.if-k-ge-MOST_FILES.true, leb-false _ _ (sym v.value-is ∙ w.if-whole_pairs-k.false)))
        | else-k-ge-MOST_FILES v ↦
            ap (ltb _) c.end_of.ensures
            ∙ by_end _ _ _ v.if-k-ge-MOST_FILES.false
            (omega (arith, v.whole_pairs.ensures, leb-false _ _ (sym v.value-is ∙ w.if-whole_pairs-k.false)))
            (omega (arith, w.offset_of.ensures, c.requires, ltb-false _ _ (sym w.value-is ∙ c.if-offset_of-last.false)))
      ]
    ]
