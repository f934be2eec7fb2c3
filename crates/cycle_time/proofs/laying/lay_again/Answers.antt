use Rattle.std.proofs.Common.{arith, length-append}
use Rattle.cycle_time.proofs.Along.{again_more, all_laid}
use Rattle.cycle_time.proofs.laying.lay_again.Goals as goal

pub loop-block-preserved : goal.loop-block-preserved
loop-block-preserved c =
    let cut = c.args.cut.now in
    again_more cut c.args.order.now c.args.ends.now c.loop-block.block
    (omega (arith, c.loop-block-test.true, c.block_count-block-end.ensures.count))
    (omega (arith, c.loop-block-test.true, c.block_count-block-end.ensures.count, length-append cut.section.blocks cut.connections))
    c.loop-block.demands.items c.lead_on.new.demands.items c.loop-block.invariant c.in_ok-lead_on.ensures

pub returns : goal.returns
returns c =
    all_laid c.args.cut.now c.requires.sound c.args.order.now c.requires.order c.loop-block.demands.items c.args.ends.now c.loop-block.block
    (omega (arith, c.loop-block-test.false, c.block_count-block-end.ensures.count)) c.loop-block.invariant
