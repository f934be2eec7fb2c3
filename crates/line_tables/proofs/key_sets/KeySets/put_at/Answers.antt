use Rattle.line_tables.proofs.Along.{put_more, room_stays}
use Rattle.line_tables.proofs.key_sets.KeySets.put_at.Goals as goal

pub loop-at-preserved : goal.loop-at-preserved
loop-at-preserved c =
    let places = c.args.places.now in
    let before = c.loop-at.self in
    let so_far = c.loop-at.invariant in
    record {
      put = put_more (λ q. q) places c.args.key c.loop-at.at-index c.loop-at-test.true c.args.self.now before c.put.new.self so_far.put c.put.ensures.put;
      room = room_stays (λ q. q) places c.args.key before c.put.new.self c.put.ensures.longer so_far.room;
    }
