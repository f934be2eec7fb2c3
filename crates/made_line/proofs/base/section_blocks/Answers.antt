use Rattle.std.proofs.Common.{sym, ◌∙◌}
use Rattle.made_line.proofs.Lists.{no_block_names, block_names-more}
use Rattle.made_line.proofs.base.section_blocks.Goals as goal

pub loop-k-init : goal.loop-k-init
loop-k-init c = c.in_ok-blocks.ensures ∙ sym (no_block_names _)

pub loop-k-preserved : goal.loop-k-preserved
loop-k-preserved c = rw (c.in_ok-push.ensures.ok, c.loop-k.invariant, c.block_name.ensures)
    (sym (block_names-more _ _))
