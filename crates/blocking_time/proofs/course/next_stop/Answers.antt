use Rattle.blocking_time.proofs.Stops.{stop_by}
use Rattle.blocking_time.proofs.course.next_stop.Goals as goal

pub returns : goal.returns
returns c =
    stop_by c.args.path.now c.args.k c.requires.some _ _ _ _ c.stop_after.ensures c.requires.hop c.mark_in-mark.ensures.mark c.requires.stop
