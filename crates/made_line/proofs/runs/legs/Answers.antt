use Rattle.std.proofs.Common.{sym, ap, ◌∙◌}
use Rattle.made_line.specs.Base.{next_number}
use Rattle.made_line.proofs.Numbers.{after_none, after_draws-more}
use Rattle.made_line.proofs.Lists.{no_legs, first_legs-more}
use Rattle.made_line.proofs.runs.legs.Goals as goal

pub loop-init : goal.loop-init
loop-init c = record { legs = c.in_ok-legs.ensures ∙ sym (no_legs _); drawn = sym (after_none _) }

pub loop-preserved : goal.loop-preserved
loop-preserved c = record {
  legs = rw (c.in_ok-push.ensures.ok, c.loop.invariant.legs, c.leg.ensures.made, c.loop.invariant.drawn)
      (sym (first_legs-more _ _));
  drawn = c.leg.ensures.drawn ∙ ap next_number c.loop.invariant.drawn ∙ sym (after_draws-more _ _);
}
