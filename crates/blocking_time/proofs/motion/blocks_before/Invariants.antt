use Rattle.std.proofs.Common.{◌≡◌, ◌<◌, ◌⊎◌}
use Rattle.rail_model.specs.Blocking.{place}
use Rattle.blocking_time.specs.Mark.{mark_of}
use Rattle.blocking_time.proofs.motion.blocks_before.Given as goal

abbrev pub invariant-loop-k : goal.invariant-loop-k
invariant-loop-k l = (l.mark ≡ mark_of l.path l.k) × ((l.k ≡ 0) ⊎ (place l.path l.k < l.metres))
