use Rattle.std.proofs.Common.{ap, ◌∙◌, arith}
use Rattle.row_text.specs.SheetRows.{SheetRows, text_of_rows}
use Rattle.capacity_report.specs.Rows.{rows_from}
use Rattle.capacity_report.specs.Parts.{text_between}
use Rattle.capacity_report.proofs.PartTexts.{rows_none, rows_more}
use Rattle.capacity_report.proofs.headways.text_of_part.Goals as goal

pub loop-i-init : goal.loop-i-init
loop-i-init c = c.with_room-sheet.ensures.rows ∙ rows_none (rows_from c.args.cut.now) c.args.part.first

pub loop-i-preserved : goal.loop-i-preserved
loop-i-preserved c =
    rows_more (rows_from c.args.cut.now) c.args.part.first c.loop-i.i (omega arith) c.loop-i.invariant
    (ap (λ (s : SheetRows). s.rows) c.ask_for_rest.ensures ∙ c.in_ok-rows_from.ensures.rows)

pub returns : goal.returns
returns c =
    c.into_text.ensures ∙ ap text_of_rows c.loop-i.invariant
    ∙ ap (text_between (rows_from c.args.cut.now) c.args.part.first) (omega (arith, c.loop-i-test.false))
