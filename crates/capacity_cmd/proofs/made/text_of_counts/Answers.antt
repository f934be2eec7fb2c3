use Rattle.std.proofs.Common.{ap, ◌∙◌}
use Rattle.row_text.specs.SheetRows.{SheetRows, text_of_rows}
use Rattle.capacity_cmd.proofs.Counted.{rows_made}
use Rattle.capacity_cmd.proofs.made.text_of_counts.Goals as goal

pub returns : goal.returns
returns c =
    let rows = λ (s : SheetRows). s.rows in
    c.into_text.ensures
    ∙ ap text_of_rows (rows_made c.args.n c.args.edits _ _ _ _ _ _ _ c.new-sheet.ensures.rows
    (ap rows c.in_ok-line_row.ensures) c.in_ok-write.ensures (ap rows c.in_ok-session_row.ensures)
    c.in_ok-write-2.ensures)
