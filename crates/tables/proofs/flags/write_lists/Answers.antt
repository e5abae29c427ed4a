-- `write_lists` meets its contract: the first list is at the front of the room, and the second at the front of the part behind it.
-- Assumes nothing.
use Rattle.definition.specs.02-Ranges.{members}
use Rattle.tables.specs.Sets.{marks}
use Rattle.tables.proofs.ListedMembers.{front_two}
use Rattle.tables.proofs.flags.write_lists.Goals as goal

pub returns : goal.returns
returns c = let a = c.args in
    front_two (members (marks a.duties.now) a.obligations 0) (members (marks a.cited.now) a.rows 0) a.room.now _ _ a.d c.requires.d_value.0
    c.write_marked.ensures c.write_marked-2.ensures
