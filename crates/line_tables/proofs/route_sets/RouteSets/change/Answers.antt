use Rattle.line_tables.specs.Links.{block_of}
use Rattle.line_tables.proofs.Along.{change_in_turn, room_stays}
use Rattle.line_tables.proofs.route_sets.RouteSets.change.Goals as goal

pub put-requires : goal.put-requires
put-requires c =
    let room = c.in_ok-make_room.ensures in
    record {
      signal_room = room_stays (λ q. q) c.args.keys.now c.args.route c.make_room.new.self.of_signals c.take.new.self.of_signals c.take.ensures.signals_longer room.signal_room;
      block_room = room_stays (λ q. q) c.args.blocks.now c.args.route c.make_room.new.self.of_blocks c.take.new.self.of_blocks c.take.ensures.blocks_longer room.block_room;
    }

pub returns-clause-signals : goal.returns-clause-signals
returns-clause-signals c =
    change_in_turn (λ q. q) (λ q. q) c.args.old.now c.args.keys.now c.args.route c.args.self.now.of_signals c.make_room.new.self.of_signals c.take.new.self.of_signals c.put.new.self.of_signals c.make_room.ensures.signals c.take.ensures.signals c.put.ensures.signals

pub returns-clause-blocks : goal.returns-clause-blocks
returns-clause-blocks c =
    change_in_turn (block_of c.args.signals.now) (λ q. q) c.args.old.now c.args.blocks.now c.args.route c.args.self.now.of_blocks c.make_room.new.self.of_blocks c.take.new.self.of_blocks c.put.new.self.of_blocks c.make_room.ensures.blocks c.take.ensures.blocks c.put.ensures.blocks
