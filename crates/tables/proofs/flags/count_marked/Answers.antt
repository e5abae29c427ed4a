-- The chain counts the flags that are set among the first `n`, and so do the definition's members. Assumes nothing.
use mathlib.Core.Path.{◌≡◌, ◌∙◌}
use mathlib.Core.Bool.{Bool}
use lib.ListN.{take}
use native.Mathlib.Omega.{arith}
use Rattle.std.proofs.Common.{rules}
use Rattle.std.specs.List.{count_by}
use Rattle.definition.proofs.RangeLaws.{members_length}
use Rattle.tables.specs.Sets.{marks}
use Rattle.tables.proofs.ListedMembers.{marked_count}
use Rattle.tables.proofs.flags.count_marked.Goals as goal

pub returns : goal.returns
returns c = let a = c.args in
    let counted : c.count.result ≡ count_by (λ (b : Bool). b) (take a.n a.flags.now) = search rules in
    let is = counted ∙ marked_count a.flags.now a.n c.requires in
    (omega (arith, is), omega (arith, is, members_length (marks a.flags.now) a.n 0))
