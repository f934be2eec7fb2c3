use Rattle.std.proofs.Common.{List, ap, ◌∙◌, sym, append-nil}
use Rattle.std.proofs.lemmas.List.Concat.{flat_map-append}
use Rattle.plan_model.specs.declared.journal.Entry.{Entry}
use Rattle.row_text.specs.SheetRows.{Row}
use Rattle.row_text.proofs.Adds.{adds_stopped}
use Rattle.answer_parts.proofs.Added.{all_none, items_more, items_within, items_all}
use Rattle.capacity_report.specs.Rows.{act_rows, rows_of_journal}
use Rattle.capacity_report.proofs.journal.rows_of_entries.Goals as goal

abbrev rows_of : Entry → List Row
rows_of e = act_rows e.act

pub loop-entry-init : goal.loop-entry-init
loop-entry-init c = all_none c.args.sheet.now c.drop_row.new.self c.drop_row.ensures.rows c.drop_row.ensures.row

pub returns-in_err-act_rows : goal.returns-in_err-act_rows
returns-in_err-act_rows c =
    adds_stopped _ c.from_residual.result c.from_residual.ensures.1
    (items_within rows_of_journal (flat_map-append rows_of) c.args.entries.now c.loop-entry.entry-index c.entry-item.result c.loop-entry-test.true
    (ap rows_of c.entry-item.is ∙ sym (append-nil _)) c.loop-entry.invariant c.in_err-act_rows.ensures)

pub loop-entry-preserved : goal.loop-entry-preserved
loop-entry-preserved c =
    items_more rows_of_journal (flat_map-append rows_of) c.args.entries.now c.loop-entry.entry-index c.entry-item.result c.loop-entry-test.true
    (ap rows_of c.entry-item.is ∙ sym (append-nil _)) c.loop-entry.invariant c.in_ok-act_rows.ensures

pub returns : goal.returns
returns c = items_all rows_of_journal (flat_map-append rows_of) c.args.entries.now c.loop-entry.entry-index c.loop-entry-test.false c.loop-entry.invariant
