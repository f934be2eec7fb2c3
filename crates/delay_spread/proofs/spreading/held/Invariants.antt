use Rattle.std.proofs.Common.{◌≡◌, map}
use Rattle.std.specs.List.{range_with_len}
use Rattle.delay_spread.specs.Spreading.{held_at}
use Rattle.delay_spread.proofs.spreading.held.Given as goal

abbrev pub invariant-loop-i : goal.invariant-loop-i
invariant-loop-i l = l.held ≡ map (held_at l.cut l.delays l.entries) (range_with_len 0 l.i)
