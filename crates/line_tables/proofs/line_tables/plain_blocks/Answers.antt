use Rattle.std.proofs.Common.{refl}
use Rattle.line_tables.proofs.RunPaths.{images_more}
use Rattle.line_tables.proofs.line_tables.plain_blocks.Goals as goal

pub loop-number-preserved : goal.loop-number-preserved
loop-number-preserved c =
    rw c.in_ok-push.ensures.ok
    (images_more (λ b. b) c.args.table.now c.loop-number.number c.nth.result.now c.loop-number.items c.nth.result.now c.nth.ensures.item c.loop-number.invariant refl)
