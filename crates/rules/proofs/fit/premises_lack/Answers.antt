-- `premises_lack` meets its contract: the premises one after the other. Assumes nothing.
use Rattle.std.proofs.Common.{rules, tests}
use Rattle.std.proofs.lemmas.Iterator.{YieldsList-from_range}
use Rattle.std.proofs.lemmas.Iterator.Search.{any_from_yields_List}
use Prim.Native.Nat.{◌+◌}
use mathlib.Core.Path.{refl, ◌∙◌}
use native.Mathlib.Omega.{arith}
use Rattle.definition.specs.21-Rules.{rule_at}
use Rattle.case_parts.specs.Named.{rule_number}
use Rattle.rules.specs.Misfits.{regard_meant}
use Rattle.rules.specs.PremiseFormulas.{formula_at, premise_trees}
use Rattle.rules.proofs.PremiseFaults.{faulty_is, any_in_range}
use Rattle.rules.proofs.fit.premises_lack.Goals as goal

pub returns : goal.returns
unfolding premise_trees
returns c =
    let s = c.args.case.now.file.now in
    let fault = regard_meant c.args.regard in
    let asks = (rule_at (rule_number c.args.rule)).asks in
    any_from_yields_List (λ i. fault (asks i) (formula_at s (c.args.from + i))) _ _ _ c.any.ensures.ran (YieldsList-from_range 0 c.args.len c.args.len refl (omega arith)) (λ x b q k. search (rules, tests))
    ∙ any_in_range (λ i. fault (asks i) (formula_at s (c.args.from + i))) c.args.len 0 ∙ faulty_is fault asks (formula_at s) c.args.from c.args.len
