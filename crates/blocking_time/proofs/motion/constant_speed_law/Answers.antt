use Rattle.std.proofs.Common.{inr, refl}
use Rattle.blocking_time.proofs.Places.{blocks_before_is}
use Rattle.blocking_time.proofs.Bounds.{reach_start, reach_at, reach_down_at}
use Rattle.blocking_time.proofs.motion.constant_speed_law.Goals as goal

pub returns : goal.returns
returns c =
    let path = c.args.path.now in
    record {
      entry = reach_start path c.requires 0 refl;
      up = λ k x on beyond within. reach_at path k x (blocks_before_is path k x on (inr beyond) within);
      down = λ k x on beyond within. reach_down_at path k x (blocks_before_is path k x on (inr beyond) within);
    }
