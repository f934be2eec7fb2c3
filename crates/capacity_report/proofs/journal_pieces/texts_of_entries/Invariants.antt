use Rattle.std.proofs.Common.{◌≡◌, ◌++◌, All}
use Rattle.std.specs.Vec.Iter.{into_iter_items}
use Rattle.row_text.specs.SheetRows.{text_of_rows}
use Rattle.capacity_report.specs.Published.{PublishesAnswer}
use Rattle.capacity_report.specs.Rows.{rows_of_journal}
use Rattle.capacity_report.specs.TextSoFar.{so_far, AreThere}
use Rattle.capacity_report.proofs.journal_pieces.texts_of_entries.Given as goal

-- the text so far, and that of the entries that are left
abbrev pub invariant-loop-entry : goal.invariant-loop-entry
invariant-loop-entry l = record {
  there : AreThere l.text;
  answers : All (λ e. PublishesAnswer e.act) (into_iter_items l.entry-iterator);
  text : so_far l.text ++ text_of_rows (rows_of_journal (into_iter_items l.entry-iterator)) ≡ text_of_rows (rows_of_journal l.fn.entries.items);
}
