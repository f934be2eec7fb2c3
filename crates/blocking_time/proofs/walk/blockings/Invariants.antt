use Rattle.std.proofs.Common.{◌≡◌, map}
use Rattle.std.specs.List.{range_with_len}
use Rattle.blocking_time.specs.Mark.{stop_mark}
use Rattle.blocking_time.specs.Blocking.{blocking_of}
use Rattle.blocking_time.proofs.walk.blockings.Given as goal

abbrev pub invariant-loop-i : goal.invariant-loop-i
invariant-loop-i l =
    (l.all.items ≡ map (blocking_of l.path) (range_with_len 1 l.i)) × (l.stop ≡ stop_mark l.path l.i)
