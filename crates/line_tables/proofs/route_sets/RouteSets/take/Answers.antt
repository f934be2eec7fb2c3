use Rattle.std.proofs.Common.{arith}
use Rattle.line_tables.specs.Links.{block_of}
use Rattle.line_tables.proofs.Along.{take_more}
use Rattle.line_tables.proofs.route_sets.RouteSets.take.Goals as goal

pub loop-key-preserved : goal.loop-key-preserved
loop-key-preserved c =
    let refs = c.args.refs.now in
    let i = c.loop-key.key-index in
    let route = c.args.route in
    let so_far = c.loop-key.invariant in
    record {
      signals = take_more (λ q. q) refs route i c.loop-key-test.true c.args.self.now.of_signals c.loop-key.self.of_signals c.take.new.self so_far.signals c.take.ensures.taken;
      blocks = take_more (block_of c.args.signals.now) refs route i c.loop-key-test.true c.args.self.now.of_blocks c.loop-key.self.of_blocks c.take-in-loop-key.new.self so_far.blocks (rw c.block_of.ensures at c.take-in-loop-key.ensures.taken);
      signals_longer = λ x. omega (arith, so_far.signals_longer x, c.take.ensures.longer x);
      blocks_longer = λ x. omega (arith, so_far.blocks_longer x, c.take-in-loop-key.ensures.longer x);
    }
