use Rattle.std.proofs.Common.{◌≡◌, List, ◌++◌, ap, ◌∙◌}
use Rattle.std.proofs.lemmas.Result.{IfOk-weaker}
use Rattle.row_text.specs.SheetRows.{Row, text_of_rows}
use Rattle.capacity_report.specs.Rows.{check_rows}
use Rattle.capacity_cmd.specs.Ends.{IsCheckText}
use Rattle.capacity_cmd.proofs.check.check_text.Goals as goal

pub returns : goal.returns
returns g c =
    let found = c.in_ok-conflict_rows.ensures.ok in
    let made = check_rows c.args.tables.now found.0 in
    IfOk-weaker c.of.result (λ text. text ≡ c.into_text.result.items) (IsCheckText c.args.tables.now)
    (λ text is. (found.0, found.1, is ∙ c.into_text.ensures ∙ ap text_of_rows (found.2 ∙ ap (λ (rows : List Row). rows ++ made) c.new-sheet.ensures.rows)))
    c.of.ensures
