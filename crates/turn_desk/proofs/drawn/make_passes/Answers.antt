use Rattle.std.proofs.Common.{◌≡◌, ◌+◌, ◌∙◌}
use Rattle.turn_desk.proofs.Drawing.{new_passes-more, known_newcomer, one_fewer_drawn}
use Rattle.turn_desk.proofs.drawn.make_passes.Goals as goal

pub loop-i-preserved : goal.loop-i-preserved
loop-i-preserved g c =
    let s = c.args.seat.now in
    let first = c.args.first in
    let i = c.loop-i.i in
    let seen = s.me.0.seen in
    let cut = c.new_seat-seat in
    let was = c.loop-i.invariant in
    let at : cut.result.table_id ≡ s.table_id = cut.ensures.table.1 ∙ was.0 in
    let new = known_newcomer cut.result s.table_id s.me c.loop-i.seat.me (first + i) _ at cut.ensures.new was.1 in (
      cut.ensures.table.0 ∙ was.0,
      one_fewer_drawn s.me c.loop-i.seat.me cut.new.seat.me first c.args.count i was.1 cut.ensures.fewer,
      new_passes-more c.loop-i.passes c.push.new.self _ s.table_id seen first i c.in_ok-push.ensures.ok was.2 new,
    )
