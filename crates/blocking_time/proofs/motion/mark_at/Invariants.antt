use Rattle.std.proofs.Common.{◌≡◌}
use Rattle.blocking_time.specs.Mark.{mark_of}
use Rattle.blocking_time.proofs.motion.mark_at.Given as goal

abbrev pub invariant-loop-hop : goal.invariant-loop-hop
invariant-loop-hop l = l.mark ≡ mark_of l.path l.hop-index
