use Rattle.made_line.specs.Base.{put_section}
use Rattle.made_line.proofs.Lists.{no_edits, more_edits, no_sections, first_sections-more}
use Rattle.made_line.proofs.base.put_sections.Goals as goal

pub loop-j-init : goal.loop-j-init
loop-j-init c = no_edits put_section _ no_sections

pub loop-j-preserved : goal.loop-j-preserved
loop-j-preserved c = rw (c.in_ok-push.ensures.ok, c.loop-j.invariant, c.in_ok-section.ensures)
    (more_edits put_section _ _ _ (first_sections-more _))
