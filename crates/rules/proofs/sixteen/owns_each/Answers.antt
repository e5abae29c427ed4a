-- `owns_each` meets its contract: the premises, one after the other. Assumes nothing.
use Rattle.std.proofs.Common.{rules, tests}
use Rattle.std.proofs.lemmas.Iterator.{YieldsList-from_range}
use Rattle.std.proofs.lemmas.Iterator.Search.{all_from_yields_List}
use Prim.Native.Nat.{◌+◌}
use mathlib.Core.Path.{◌≡◌, refl, ◌∙◌}
use lib.ListN.{get_or}
use native.Mathlib.Omega.{arith}
use Rattle.definition.specs.13-Formulas.{same, owns}
use Rattle.rules.specs.PremiseFormulas.{formula_at, premise_trees}
use Rattle.rules.proofs.OwnedData.{owned_is}
use Rattle.rules.proofs.sixteen.owns_each.Goals as goal

pub returns : goal.returns
unfolding premise_trees
returns c =
    let s = c.args.case.now.file.now in
    let start : c.args.from + 0 ≡ c.args.from = omega arith in
    all_from_yields_List (λ i. same (formula_at s (c.args.from + i)) (owns c.args.agent (get_or c.args.set.now i 0))) _ _ _ c.all.ensures.ran
    (YieldsList-from_range 0 c.args.len c.args.len refl (omega arith)) (λ x b q k. search (rules, tests))
    ∙ (rw start at (owned_is (formula_at s) c.args.agent c.args.from c.args.len 0 c.args.set.now (omega (arith, c.requires.set_len.0, c.requires.set_len.1))))
