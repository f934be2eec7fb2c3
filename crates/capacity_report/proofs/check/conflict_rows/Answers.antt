use Rattle.std.proofs.Common.{◌++◌, ap, ◌∙◌}
use Rattle.std.proofs.lemmas.Result.{on_ok_weaker, on_err_weaker}
use Rattle.answer_parts.proofs.Added.{adds_rows, adds_closed, adds_first}
use Rattle.capacity_report.specs.Rows.{found_rows}
use Rattle.capacity_report.proofs.Checks.{all_there, rows_found}
use Rattle.capacity_report.proofs.check.conflict_rows.Goals as goal

pub found_rows-requires : goal.found_rows-requires
found_rows-requires c = all_there c.args.tables.now c.runs-runs.ensures.sound c.args.found.now c.requires

pub returns-clause-ok : goal.returns-clause-ok
returns-clause-ok c =
    let before = c.args.sheet.now in
    let rows = found_rows c.args.tables.now c.args.found.now in
    on_ok_weaker c.found_rows.result
    (λ added. (c.requires.all, c.requires.are, added ∙ ap (λ all. before.rows ++ all) (rows_found c.args.tables.now c.args.found.now c.requires)))
    (adds_rows before c.found_rows.new.sheet rows c.found_rows.result c.found_rows.ensures)

pub returns-clause-closed : goal.returns-clause-closed
returns-clause-closed c =
    adds_closed c.args.sheet.now c.found_rows.new.sheet (found_rows c.args.tables.now c.args.found.now) c.found_rows.result c.found_rows.ensures

pub returns-clause-err : goal.returns-clause-err
returns-clause-err c =
    let before = c.args.sheet.now in
    let rows = found_rows c.args.tables.now c.args.found.now in
    on_err_weaker c.found_rows.result
    (λ part. (c.requires.all, c.requires.are, rw (rows_found c.args.tables.now c.args.found.now c.requires) at part))
    (adds_first before c.found_rows.new.sheet rows c.found_rows.result c.found_rows.ensures)
