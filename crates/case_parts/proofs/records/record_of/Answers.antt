-- `record_of` meets its contract: the record lies in the bytes, and its fields where the definition reads them. Assumes nothing.
use native.Mathlib.Omega.{arith}
use Rattle.case_parts.proofs.LayoutLaws.{record_near, record_is}
use Rattle.case_parts.proofs.records.record_of.Goals as goal

pub overflow_mul-at : goal.overflow_mul-at
overflow_mul-at c = omega (arith, record_near _ _ _ _ c.requires c.record_bytes-each.ensures)

pub overflow_add-result : goal.overflow_add-result
overflow_add-result c = omega (arith, record_near _ _ _ _ c.requires c.record_bytes-each.ensures)

pub slice_bounds-result-end : goal.slice_bounds-result-end
slice_bounds-result-end c = omega (arith, record_near _ _ _ _ c.requires c.record_bytes-each.ensures)

pub returns : goal.returns
returns c = record_is _ _ _ _ c.requires c.record_bytes-each.ensures
