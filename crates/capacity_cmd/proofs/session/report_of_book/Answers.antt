use Rattle.std.proofs.Common.{subst}
use Rattle.rail_model.specs.declared.tables.Tables.{Tables}
use Rattle.capacity_cmd.specs.Ends.{IsReportText}
use Rattle.capacity_cmd.proofs.Reports.{report_written}
use Rattle.capacity_cmd.proofs.session.report_of_book.Goals as goal

pub add_report-requires : goal.add_report-requires
add_report-requires c = rw (c.tables.ensures, c.deref.ensures.value) c.in_ok-answers.ensures

pub returns : goal.returns
returns c =
    subst (λ (t : Tables). IsReportText t c.into_text.result.items) c.tables.ensures
    (report_written c.tables.result.now _ _ _ c.new-sheet.ensures.rows c.in_ok-add_report.ensures c.into_text.ensures)
