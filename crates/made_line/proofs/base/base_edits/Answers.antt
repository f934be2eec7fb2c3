use Rattle.made_line.proofs.Lists.{joined_base}
use Rattle.made_line.proofs.base.base_edits.Goals as goal

pub returns : goal.returns
returns c =
    rw (c.in_ok-put_sections.ensures, c.in_ok-put_runs.ensures, c.in_ok-push.ensures.ok, c.in_ok-route.ensures, c.in_ok-put_signals.ensures, c.in_ok-put_blocks.ensures.put, c.in_ok-put_blocks.ensures.drawn, c.in_ok-edits.ensures, c.from-draws.ensures)
    (joined_base _)
