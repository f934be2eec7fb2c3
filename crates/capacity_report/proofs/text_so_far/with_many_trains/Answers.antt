use Rattle.std.proofs.Common.{[], ◌∷◌, ◌++◌, ap, ◌∙◌, arith}
use Rattle.row_text.specs.SheetRows.{text_of_rows}
use Rattle.capacity_report.specs.Answers.{train_rows}
use Rattle.capacity_report.proofs.TextSoFar.{grows_closed, ends_with, all_still_there, now_there}
use Rattle.capacity_report.proofs.text_so_far.with_many_trains.Goals as goal

pub returns : goal.returns
returns c =
    let before = c.args.before in
    let plan = c.args.plan in
    let text = c.text_of.result in
    let done = c.in_ok-bytes.ensures in
    let is = c.text_of.ensures ∙ ap text_of_rows done.0.rows in
    let ends = ends_with text.items before.sheet.rows plan c.bytes-from.result c.in_ok-bytes.bytes.items is c.bytes-from.ensures done.1 in
    let last = c.in_ok-keep.ensures (before.texts.items ++ text ∷ []) (now_there before.texts.items text _ (omega (arith, c.len.ensures, before.texts.ok.0)) ends) (all_still_there before.texts.items text before.last.items c.requires.there) in
    grows_closed before _ text (train_rows plan) c.in_ok-push.ensures.items c.begun-sheet.ensures is (rw c.in_ok-push.ensures.items last)
