use Rattle.std.proofs.Common.{sym}
use Rattle.made_line.proofs.Numbers.{after_none, after_next_run}
use Rattle.made_line.proofs.Lists.{no_edits, more_edits, no_runs, first_runs-more}
use Rattle.made_line.specs.Base.{put_run}
use Rattle.made_line.proofs.base.put_runs.Goals as goal

pub loop-i-init : goal.loop-i-init
loop-i-init c = record { edits = no_edits put_run _ (no_runs _); drawn = sym (after_none _) }

pub loop-i-preserved : goal.loop-i-preserved
loop-i-preserved c = record {
  edits = rw (c.in_ok-push.ensures.ok, c.loop-i.invariant.edits, c.in_ok-run.ensures.made, c.loop-i.invariant.drawn)
      (more_edits put_run _ _ _ (first_runs-more _ _));
  drawn = after_next_run _ _ _ _ c.loop-i.invariant.drawn c.in_ok-run.ensures.drawn;
}
