use Rattle.std.proofs.Common.{◌≡◌, ◌++◌, [], ◌∷◌, ap, ◌∙◌, append_assoc}
use Rattle.std.proofs.lemmas.Result.{IfOk-weaker}
use Rattle.row_text.specs.SheetRows.{SheetRows, with_row}
use Rattle.capacity_report.specs.Answers.{total_row}
use Rattle.capacity_cmd.specs.Ends.{occupancy_row}
use Rattle.capacity_cmd.specs.Counted.{counted_rows, counted_by}
use Rattle.capacity_cmd.proofs.made.counted_rows.Goals as goal

pub returns : goal.returns
returns c =
    let total = c.args.tally.now in
    let before = c.args.sheet.now.rows in
    let sum = occupancy_row c.args.occupancy in
    let last = λ (s : SheetRows). s.rows ++ sum ∷ [] in
    IfOk-weaker c.occupancy_row.result (λ done. c.occupancy_row.new.sheet ≡ with_row c.total_row.new.sheet sum)
    (λ done. c.occupancy_row.new.sheet.rows ≡ before ++ counted_rows (counted_by total c.args.occupancy))
    (λ done is. ap (λ (s : SheetRows). s.rows) is ∙ ap last c.in_ok-total_row.ensures.ok
    ∙ append_assoc before (total_row total ∷ []) (sum ∷ []))
    c.occupancy_row.ensures
