use Rattle.std.proofs.Common.{sym, ◌∙◌}
use Rattle.made_line.proofs.Numbers.{after_none, after_next_run}
use Rattle.made_line.proofs.Lists.{no_runs, first_runs-more}
use Rattle.made_line.proofs.runs.runs.Goals as goal

pub loop-i-init : goal.loop-i-init
loop-i-init c = record { runs = c.in_ok-runs.ensures ∙ sym (no_runs _); drawn = sym (after_none _) }

pub loop-i-preserved : goal.loop-i-preserved
loop-i-preserved c = record {
  runs = rw (c.in_ok-push.ensures.ok, c.loop-i.invariant.runs, c.in_ok-run.ensures.made, c.loop-i.invariant.drawn)
      (sym (first_runs-more _ _));
  drawn = after_next_run _ _ _ _ c.loop-i.invariant.drawn c.in_ok-run.ensures.drawn;
}
