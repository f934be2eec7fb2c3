use Rattle.std.proofs.Common.{◌<◌, [], ◌∷◌, ◌++◌, sym, ap, ◌∙◌, length, get_or, arith}
use Rattle.plan_model.specs.PlacedList.{no_train}
use Rattle.row_text.specs.SheetRows.{SheetRows}
use Rattle.row_text.proofs.SheetRows.{IsTrue-from}
use Rattle.capacity_report.specs.Answers.{train_row}
use Rattle.capacity_report.specs.LastTrains.{bytes_of}
use Rattle.capacity_report.proofs.LastTrains.{next_within, size_is, again_same, again_other, bytes_more}
use Rattle.capacity_report.proofs.last_trains.rows_again.Goals as goal
use Rattle.capacity_report.proofs.last_trains.rows_again.Goals.{then-has_same_row+in_ok-push, else-has_same_row+in_ok-append_text+in_ok-row_anew+in_ok-push-2}

pub overflow_add-next : goal.overflow_add-next
overflow_add-next c =
    let within = next_within c.args.text.now c.args.plan.now c.args.last.now.plan c.args.last.now.from c.args.last.now.bytes.items c.requires.alike c.requires.there _ _ _ _ _ c.index-size.result.now c.loop-i.invariant.so_far (omega arith) c.index-size.ensures in
    omega (arith, within)

pub loop-i-preserved : goal.loop-i-preserved
loop-i-preserved c =
    let text = c.args.text.now in
    let plan = c.args.plan.now in
    let last = c.args.last.now in
    let i = c.loop-i.i in
    let size = c.index-size.result.now in
    let so_far = c.loop-i.invariant.so_far in
    let there : i < length plan.placed = omega arith in
    elim c.if-has_same_row.branch [
      | then-has_same_row+in_ok-push w ↦
          let same = c.has_same_row.ensures (IsTrue-from w.if-has_same_row.true) in
          record {
            so_far = rw (w.sheet-is, w.start-is) (again_same text plan last.plan last.from last.bytes.items c.requires.alike c.requires.there _ _ _ _ i size so_far there c.index-size.ensures same);
            bytes = rw (w.bytes-is, w.in_ok-push.ensures.items)
                (bytes_more plan i size there c.loop-i.invariant.bytes
                (size_is text plan last.plan last.from last.bytes.items c.requires.alike c.requires.there _ _ _ _ i size so_far there c.index-size.ensures ∙ ap bytes_of (sym same)));
          }
      | else-has_same_row+in_ok-append_text+in_ok-row_anew+in_ok-push-2 w ↦
          let row = train_row plan (get_or plan.placed i no_train) in
          let done = ap (λ (s : SheetRows). s.rows) w.in_ok-row_anew.ensures.0 ∙ ap (λ rows. rows ++ row ∷ []) (w.in_ok-append_text.ensures.ok so_far.waiting so_far.copied) in
          record {
            so_far = rw (w.sheet-is, w.start-is) (again_other text plan last.plan last.from last.bytes.items c.requires.alike c.requires.there _ _ _ _ i size so_far there c.index-size.ensures w.row_anew.new.sheet.rows done);
            bytes = rw (w.bytes-is, w.in_ok-push-2.ensures.items) (bytes_more plan i w.in_ok-row_anew.field-0 there c.loop-i.invariant.bytes w.in_ok-row_anew.ensures.1);
          }
    ]
