use Rattle.std.proofs.Common.{take}
use Rattle.row_text.specs.Adds.{AddsAll}
use Rattle.capacity_report.specs.Rows.{rows_of_journal}
use Rattle.capacity_report.proofs.journal.rows_of_entries.Given as goal

abbrev pub invariant-loop-entry : goal.invariant-loop-entry
invariant-loop-entry l = AddsAll l.fn.sheet l.sheet (rows_of_journal (take l.entry-index l.entries))
