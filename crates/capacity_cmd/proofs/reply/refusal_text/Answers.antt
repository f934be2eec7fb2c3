use Rattle.std.proofs.Common.{ap, ◌∙◌, append-nil}
use Rattle.std.specs.Prelude.{decimal}
use Rattle.row_text.specs.SheetRows.{SheetRows, with_field, with_row, text_of_rows}
use Rattle.capacity_cmd.proofs.reply.refusal_text.Goals as goal

pub returns : goal.returns
returns c =
    let why = c.cause_text.result.now in
    let word = c.in_ok-push_field.ensures.ok in
    let row = c.in_ok-push_count.ensures.ok ∙ ap (λ (s : SheetRows). with_field s (decimal c.args.row)) word in
    let cause = c.in_ok-push_field-2.ensures.ok ∙ ap (λ (s : SheetRows). with_field s why) row in
    let whole = c.in_ok-end_row.ensures.ok ∙ ap (λ (s : SheetRows). with_row s s.row) cause in
    c.into_text.ensures ∙ ap (λ (s : SheetRows). text_of_rows s.rows) whole
    ∙ rw (c.new-sheet.ensures.rows, c.new-sheet.ensures.row, c.cause_text.ensures) (append-nil _)
