use Rattle.session_run.proofs.AnsweredAhead.{asked_more}
use Rattle.session_run.proofs.ahead.asked.Goals as goal

pub loop-reading-init : goal.loop-reading-init
loop-reading-init c = rw c.in_ok-all.ensures.items c.into_iter-reading-iterator.ensures.into_iter_gives.0

pub loop-reading-preserved : goal.loop-reading-preserved
loop-reading-preserved c =
    rw c.in_ok-push.ensures.items
    (asked_more c.loop-reading.all.items _ _ _ c.args.readings.items c.in-Some.ensures.steps.0 c.loop-reading.invariant)
