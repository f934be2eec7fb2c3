use Rattle.std.proofs.Common.{◌∙◌, length, take, subst}
use Rattle.std.proofs.lemmas.List.{take_all}
use Rattle.std.proofs.lemmas.List.Elements.{All-more, All-weaker}
use Rattle.std.specs.Prelude.{All}
use Rattle.line_tables.specs.KeyCounts.{HasRoomFor}
use Rattle.line_tables.proofs.Counts.{HasRoomFor-longer}
use Rattle.line_tables.proofs.key_counts.KeyCounts.make_room.Goals as goal

pub loop-key-preserved : goal.loop-key-preserved
loop-key-preserved c =
    let keys = c.args.keys.now in
    let i = c.loop-key.key-index in
    let more = length keys in
    let old = c.loop-key.self-inside.counts.items in
    let new = c.make_room_for.new.counts.items in
    let made = c.make_room_for.ensures in
    record {
      same = λ k. made.same k ∙ c.loop-key.invariant.same k;
      room =
          All-more (HasRoomFor new more) keys i 0 c.loop-key-test.true
          (All-weaker (HasRoomFor old more) (HasRoomFor new more) (λ k. HasRoomFor-longer old new more k made.same made.longer) (take i keys) c.loop-key.invariant.room)
          c.in_ok-make_room_for.ensures.room;
    }

pub returns-clause-room : goal.returns-clause-room
returns-clause-room c =
    let keys = c.args.keys.now in
    subst (All (HasRoomFor c.loop-key.self-inside.counts.items (length keys))) (take_all c.loop-key.key-index keys c.loop-key-test.false) c.loop-key.invariant.room
