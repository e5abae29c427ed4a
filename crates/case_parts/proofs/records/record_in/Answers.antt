-- `record_in` meets its contract: the part has as many records as the header says. Assumes nothing.
use Rattle.definition.proofs.PartLaws.{held_count}
use Rattle.case_parts.proofs.records.record_in.Goals as goal

pub record_of-requires : goal.record_of-requires
record_of-requires c = let p = c.requires in
    rw (c.part-bytes.ensures, held_count _ p.0 _ p.1) p.2
