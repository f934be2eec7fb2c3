use Rattle.std.proofs.Common.{[], ◌∷◌, ◌++◌, refl, ap, ◌∙◌, append_assoc}
use Rattle.std.proofs.lemmas.Result.{IfOk-weaker}
use Rattle.row_text.specs.SheetRows.{SheetRows}
use Rattle.capacity_report.specs.declared.text_so_far.TextSoFar.{TextSoFar}
use Rattle.capacity_report.specs.Answers.{head_rows, train_rows}
use Rattle.capacity_report.specs.Rows.{published_row}
use Rattle.capacity_report.specs.TextSoFar.{Grows}
use Rattle.capacity_report.proofs.Plans.{shown_in}
use Rattle.capacity_report.proofs.TextSoFar.{grows_by, grows_then}
use Rattle.capacity_report.proofs.text_so_far.with_plan.Goals as goal

pub head_rows-requires : goal.head_rows-requires
head_rows-requires c = shown_in c.args.plan c.requires.answer

pub with_trains-requires-clause-shown : goal.with_trains-requires-clause-shown
with_trains-requires-clause-shown c = shown_in c.args.plan c.requires.answer

pub returns : goal.returns
returns c =
    let before = c.args.before in
    let row = published_row c.args.section c.args.at in
    let head = head_rows c.args.section c.args.plan in
    let later : TextSoFar = record { texts = before.texts; sheet = c.head_rows.new.sheet; last = before.last; rooms = before.rooms } in
    let so_far = c.in_ok-head_rows.ensures.rows ∙ ap (λ (s : SheetRows). s.rows ++ head) c.in_ok-published_row.ensures ∙ append_assoc before.sheet.rows (row ∷ []) head in
    let first : Grows before later ((row ∷ []) ++ head) = grows_by before later ((row ∷ []) ++ head) c.requires.there refl refl so_far in
    IfOk-weaker c.with_trains.result _ _ (λ after rest. grows_then ((row ∷ []) ++ head) (train_rows c.args.plan) first rest) c.with_trains.ensures
