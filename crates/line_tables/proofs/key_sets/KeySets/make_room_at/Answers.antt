use Rattle.std.proofs.Common.{◌∙◌, arith, subst}
use Rattle.std.proofs.lemmas.List.{take_all}
use Rattle.line_tables.specs.RouteSets.{HasRoomAt}
use Rattle.line_tables.proofs.Along.{room_more}
use Rattle.line_tables.proofs.key_sets.KeySets.make_room_at.Goals as goal

pub loop-at-preserved : goal.loop-at-preserved
loop-at-preserved c =
    let so_far = c.loop-at.invariant in
    let made = c.in_ok-make_room.ensures in
    record {
      same = λ x r. made.same x r ∙ so_far.same x r;
      room = room_more (λ q. q) c.args.places.now c.args.key c.loop-at.at-index c.loop-at-test.true c.loop-at.self c.make_room.new.self made.longer so_far.room (omega (arith, c.words_for-words.ensures, made.room));
    }

pub returns-clause-room : goal.returns-clause-room
returns-clause-room c =
    let whole = take_all c.loop-at.at-index c.args.places.now c.loop-at-test.false in
    subst (λ places. HasRoomAt (λ q. q) places c.args.key c.loop-at.self) whole c.loop-at.invariant.room
