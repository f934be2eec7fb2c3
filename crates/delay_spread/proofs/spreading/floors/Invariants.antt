use Rattle.std.proofs.Common.{◌≡◌, map}
use Rattle.std.specs.List.{range_with_len}
use Rattle.delay_spread.specs.Spreading.{delayed_floor}
use Rattle.delay_spread.proofs.spreading.floors.Given as goal

abbrev pub invariant-loop-i : goal.invariant-loop-i
invariant-loop-i l = l.floors.items ≡ map (delayed_floor l.cut l.delays) (range_with_len 0 l.i)
