use Rattle.std.proofs.Common.{subst}
use Rattle.cycle_time.specs.Rings.{IsSettling}
use Rattle.cycle_time.proofs.Limits.{found_it}
use Rattle.cycle_time.proofs.least_period.least_period.Goals as goal

pub returns-in-Repeats : goal.returns-in-Repeats
returns-in-Repeats c =
    found_it c.args.cut.now c.requires.sound c.requires.some c.loop-ring.period c.loop-ring.ring c.loop-ring.invariant.limit
    c.in-Repeats.entries (subst (IsSettling c.args.cut.now c.loop-ring.period) c.in-Repeats.is c.in_ok-entries.ensures)
