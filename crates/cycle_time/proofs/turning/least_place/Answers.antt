use Rattle.cycle_time.proofs.Turned.{least_more}
use Rattle.cycle_time.proofs.turning.least_place.Goals as goal

pub loop-k-preserved : goal.loop-k-preserved
loop-k-preserved c = (
  c.lesser-least.ensures.there,
  least_more c.args.demands.now c.loop-k.k c.loop-k.least c.lesser-least.result c.loop-k-test.true c.loop-k.invariant.1
      c.lesser-least.ensures.one c.lesser-least.ensures.other,
)
