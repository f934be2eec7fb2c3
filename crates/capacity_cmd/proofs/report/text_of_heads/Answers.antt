use Rattle.std.proofs.Common.{List, [], ◌∷◌, ◌++◌, ap, ◌∙◌}
use Rattle.row_text.specs.SheetRows.{Row, SheetRows, text_of_rows}
use Rattle.capacity_report.specs.Answers.{total_row}
use Rattle.capacity_cmd.proofs.Reports.{heads_reported}
use Rattle.capacity_cmd.proofs.report.text_of_heads.Goals as goal

pub returns : goal.returns
returns c =
    let total = c.take_heads.new.tally in
    let rows = ap (λ (s : SheetRows). s.rows) c.in_ok-total_row.ensures.ok ∙ ap (λ (r : List Row). r ++ total_row total ∷ []) c.new-last.ensures.rows in
    heads_reported c.args.tables.now _ _ _ total c.in_ok-take_heads.ensures (c.into_text.ensures ∙ ap text_of_rows rows) c.in_ok-push.ensures.ok
