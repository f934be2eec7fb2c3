use Rattle.std.proofs.Common.{map, take}
use Rattle.row_text.specs.Adds.{AddsAll}
use Rattle.answer_parts.specs.Rows.{link_row}
use Rattle.answer_parts.proofs.links.link_rows.Given as goal

abbrev pub invariant-loop-link : goal.invariant-loop-link
invariant-loop-link l = AddsAll l.fn.sheet l.sheet (map link_row (take l.link-index l.links))
