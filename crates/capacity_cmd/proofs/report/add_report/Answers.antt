use Rattle.std.proofs.Common.{◌≡◌, ap}
use Rattle.std.proofs.lemmas.Result.{IfOk-weaker}
use Rattle.row_text.specs.SheetRows.{SheetRows, with_row}
use Rattle.capacity_report.specs.Answers.{total_row}
use Rattle.capacity_cmd.specs.Heads.{AddsReport}
use Rattle.capacity_cmd.proofs.Reports.{report_added}
use Rattle.capacity_cmd.proofs.report.add_report.Goals as goal

pub returns : goal.returns
returns c =
    IfOk-weaker c.total_row.result (λ done. c.total_row.new.sheet ≡ with_row c.add_heads.new.sheet (total_row c.add_heads.new.tally))
    (λ done. AddsReport c.args.tables.now c.args.sheet.now.rows c.total_row.new.sheet.rows)
    (λ done is. report_added c.args.tables.now _ _ _ _ c.in_ok-add_heads.ensures (ap (λ (s : SheetRows). s.rows) is)) c.total_row.ensures.ok
