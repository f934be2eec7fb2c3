use Rattle.std.proofs.Common.{◌≡◌, arith}
use Rattle.rail_model.specs.Blocking.{hop}
use Rattle.blocking_time.proofs.Stops.{approach_by}
use Rattle.blocking_time.proofs.approach.approach_seconds.Goals as goal

pub returns-clause-moment : goal.returns-clause-moment
returns-clause-moment c =
    let approach : c.from.result ≡ (hop c.args.path.now c.args.k).approach_m = grind arith in
    approach_by c.args.path.now c.args.k c.requires.on_path _ _ _ _ _ _ c.after_stop.ensures c.saturating_sub-point_m.ensures c.seconds_down_at-reached_s.ensures.moment c.mark_at-entry.ensures.mark c.last_stop-stop.ensures.mark approach
