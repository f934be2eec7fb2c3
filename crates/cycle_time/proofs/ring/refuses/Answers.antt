use Rattle.cycle_time.specs.Cycle.{first_train}
use Rattle.cycle_time.proofs.Led.{all_steps}
use Rattle.cycle_time.proofs.ring.refuses.Goals as goal

pub total-requires : goal.total-requires
total-requires c =
    let ring = c.args.ring.now in
    all_steps c.args.cut.now (first_train ring) ring (first_train ring) (c.is_ring.ensures.0 c.if-not-is_ring.false).leads
