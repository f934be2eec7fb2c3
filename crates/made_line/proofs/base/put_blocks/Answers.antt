use Rattle.std.proofs.Common.{sym, ap, ◌∙◌}
use Rattle.made_line.specs.Base.{next_number, put_block}
use Rattle.made_line.proofs.Numbers.{after_none, after_draws-more}
use Rattle.made_line.proofs.Lists.{no_edits, more_edits, no_blocks, first_blocks-more}
use Rattle.made_line.proofs.base.put_blocks.Goals as goal

pub loop-i-init : goal.loop-i-init
loop-i-init c = record { edits = no_edits put_block _ (no_blocks _); drawn = sym (after_none _) }

pub loop-i-preserved : goal.loop-i-preserved
loop-i-preserved c = record {
  edits = rw (c.in_ok-push.ensures.ok, c.loop-i.invariant.edits, c.block.ensures.made, c.loop-i.invariant.drawn)
      (more_edits put_block _ _ _ (first_blocks-more _ _));
  drawn = c.block.ensures.drawn ∙ ap next_number c.loop-i.invariant.drawn ∙ sym (after_draws-more _ _);
}
