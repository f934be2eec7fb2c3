use Rattle.std.proofs.Common.{◌++◌, sym, ap, ◌∙◌}
use Rattle.std.specs.Vec.Iter.{into_iter_items}
use Rattle.capacity_report.proofs.PieceTexts.{entries_of, piece_closed}
use Rattle.capacity_report.proofs.journal_pieces.pieces_of.Goals as goal

pub loop-entry-preserved-then-rows-piece_rows : goal.loop-entry-preserved-then-rows-piece_rows
loop-entry-preserved-then-rows-piece_rows c =
    let pieces = c.loop-entry.pieces.items in
    let entries = c.loop-entry.entries.items in
    let is = c.begun.ensures ∙ ap (λ v. v.items) c.replace.ensures.value ∙ c.in_ok-push.ensures.items in
    let left = ap (λ es. entries_of pieces ++ (entries ++ es)) c.in-Some.ensures.steps.0 in
    rw (c.in_ok-push-2.ensures.items, c.replace.ensures.after, c.new.ensures.items)
    (piece_closed pieces c.begun.result entries (into_iter_items c.next.new.self) c.args.journal c.in-Some.entry is (sym left ∙ c.loop-entry.invariant))
