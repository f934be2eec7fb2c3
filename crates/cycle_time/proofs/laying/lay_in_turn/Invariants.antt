use Rattle.std.proofs.Common.{take}
use Rattle.cycle_time.specs.Laying.{AreLaid}
use Rattle.cycle_time.proofs.laying.lay_in_turn.Given as goal

abbrev pub invariant-loop-k : goal.invariant-loop-k
invariant-loop-k l = AreLaid l.cut (take l.k l.order) l.demands.items l.ends
