use Rattle.line_cutter.proofs.SomeCutting.{one_fits}
use Rattle.line_cutter.proofs.longest.longest_from.Goals as goal

pub loop-fits-init : goal.loop-fits-init
loop-fits-init c = one_fits c.args.line.now c.block_count-count.ensures.sound c.args.a c.requires.some
