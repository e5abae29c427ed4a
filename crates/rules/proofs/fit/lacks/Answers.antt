-- `lacks` meets its contract: the kind, and where it is right the party. Assumes nothing.
use mathlib.Core.Path.{sym, ap, ◌∙◌}
use mathlib.Core.Bool.{not}
use Rattle.definition.specs.21-Rules.{is_other_kind, is_other_party}
use Rattle.rules.specs.Misfits.{regard_meant}
use Rattle.rules.proofs.fit.lacks.Goals as goal

pub returns-in-Kind : goal.returns-in-Kind
unfolding regard_meant is_other_kind
returns-in-Kind c f told = rw c.in-Kind.is (ap not (c.has_kind-alike.ensures f told.kind))

pub returns-then-alike : goal.returns-then-alike
unfolding regard_meant is_other_party
returns-then-alike c f told = let kind = sym (c.has_kind-alike.ensures f told.kind) ∙ c.if-alike.true in
    rw (c.in-Party.is, kind, ← (c.has_party.ensures f told kind))

pub returns-else-alike : goal.returns-else-alike
unfolding regard_meant is_other_party
returns-else-alike c f told = rw (c.in-Party.is, sym (c.has_kind-alike.ensures f told.kind) ∙ c.if-alike.false) c.if-alike.false
