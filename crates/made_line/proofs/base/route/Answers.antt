use Rattle.std.proofs.Common.{sym, ◌∙◌}
use Rattle.made_line.proofs.Lists.{no_signal_names, signal_names-more}
use Rattle.made_line.proofs.base.route.Goals as goal

pub loop-i-init : goal.loop-i-init
loop-i-init c = c.in_ok-signals.ensures ∙ sym no_signal_names

pub loop-i-preserved : goal.loop-i-preserved
loop-i-preserved c = rw (c.in_ok-push.ensures.ok, c.loop-i.invariant, c.signal_name.ensures)
    (sym (signal_names-more _))
