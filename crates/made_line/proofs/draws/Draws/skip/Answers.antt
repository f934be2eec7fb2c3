use Rattle.std.proofs.Common.{sym, ap, ◌∙◌}
use Rattle.made_line.specs.Base.{next_number}
use Rattle.made_line.proofs.Numbers.{after_none, after_draws-more}
use Rattle.made_line.proofs.draws.Draws.skip.Goals as goal

pub loop-init : goal.loop-init
loop-init c = sym (after_none _)

pub loop-preserved : goal.loop-preserved
loop-preserved c = c.draw.ensures.next ∙ ap next_number c.loop.invariant ∙ sym (after_draws-more _ _)
