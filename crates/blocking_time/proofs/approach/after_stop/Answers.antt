use Rattle.std.proofs.Common.{rules}
use Rattle.blocking_time.proofs.approach.after_stop.Goals as goal

pub returns-then-point_m-stop : goal.returns-then-point_m-stop
returns-then-point_m-stop c = search rules

pub returns-else-point_m-stop : goal.returns-else-point_m-stop
returns-else-point_m-stop c = search rules
