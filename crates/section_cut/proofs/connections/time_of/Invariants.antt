use Rattle.std.proofs.Common.{◌≡◌, take}
use Rattle.std.specs.List.{sum_by}
use Rattle.section_cut.proofs.Arrivals.{leg_time}
use Rattle.section_cut.proofs.connections.time_of.Given as goal

-- the times so far
abbrev pub invariant-loop-leg : goal.invariant-loop-leg
invariant-loop-leg l = l.seconds ≡ sum_by leg_time (take l.leg-index l.run.legs)
