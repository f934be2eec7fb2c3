use Rattle.std.proofs.Common.{get_or, sym, ap, ◌∙◌, append-nil}
use Rattle.std.specs.List.{flat_map}
use Rattle.std.proofs.lemmas.List.Concat.{flat_map-append}
use Rattle.row_text.proofs.Adds.{adds_stopped}
use Rattle.answer_parts.proofs.Added.{items_within}
use Rattle.line_cutter.specs.Rows.{stretch_rows}
use Rattle.line_cutter.proofs.rows.stretches_rows.Goals as goal

pub returns-in_err-stretch_rows : goal.returns-in_err-stretch_rows
returns-in_err-stretch_rows c =
    let rows = stretch_rows c.args.section.now in
    let s = c.stretch-item.result in
    adds_stopped _ c.from_residual.result c.from_residual.ensures.1
    (items_within (flat_map rows) (flat_map-append rows) c.args.stretches.now c.loop-stretch.stretch-index s c.loop-stretch-test.true
    (ap rows c.stretch-item.is ∙ sym (append-nil (rows (get_or c.args.stretches.now c.loop-stretch.stretch-index s))))
    c.loop-stretch.invariant c.in_err-stretch_rows.ensures)
