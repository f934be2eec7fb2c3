use Rattle.made_line.specs.Base.{put_signal}
use Rattle.made_line.proofs.Lists.{no_edits, more_edits, no_signals, first_signals-more}
use Rattle.made_line.proofs.base.put_signals.Goals as goal

pub loop-i-init : goal.loop-i-init
loop-i-init c = no_edits put_signal _ no_signals

pub loop-i-preserved : goal.loop-i-preserved
loop-i-preserved c = rw (c.in_ok-push.ensures.ok, c.loop-i.invariant, c.signal.ensures)
    (more_edits put_signal _ _ _ (first_signals-more _))
