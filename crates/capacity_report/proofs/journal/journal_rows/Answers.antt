use Rattle.answer_parts.proofs.Added.{adds_rows, adds_closed, adds_first}
use Rattle.capacity_report.specs.Rows.{rows_of_journal}
use Rattle.capacity_report.proofs.Published.{publish_answers}
use Rattle.capacity_report.proofs.journal.journal_rows.Goals as goal

pub rows_of_entries-requires : goal.rows_of_entries-requires
rows_of_entries-requires c = rw c.slice.ensures (publish_answers c.args.journal.now c.requires)

pub returns-clause-ok : goal.returns-clause-ok
returns-clause-ok c = rw c.slice.ensures at (adds_rows c.args.sheet.now c.rows_of_entries.new.sheet (rows_of_journal c.slice.result.now) c.rows_of_entries.result c.rows_of_entries.ensures)

pub returns-clause-closed : goal.returns-clause-closed
returns-clause-closed c = adds_closed c.args.sheet.now c.rows_of_entries.new.sheet (rows_of_journal c.slice.result.now) c.rows_of_entries.result c.rows_of_entries.ensures

pub returns-clause-err : goal.returns-clause-err
returns-clause-err c = rw c.slice.ensures at (adds_first c.args.sheet.now c.rows_of_entries.new.sheet (rows_of_journal c.slice.result.now) c.rows_of_entries.result c.rows_of_entries.ensures)
