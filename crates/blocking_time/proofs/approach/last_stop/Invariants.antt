use Rattle.std.proofs.Common.{◌≡◌}
use Rattle.blocking_time.specs.Mark.{mark_of, stop_mark}
use Rattle.blocking_time.proofs.approach.last_stop.Given as goal

abbrev pub invariant-loop-hop : goal.invariant-loop-hop
invariant-loop-hop l = (l.mark ≡ mark_of l.path l.hop-index) × (l.stop ≡ stop_mark l.path l.hop-index)
