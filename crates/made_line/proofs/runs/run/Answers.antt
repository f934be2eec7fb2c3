use Rattle.std.proofs.Common.{◌∙◌, ap, refl}
use Rattle.made_line.specs.Base.{after_draws}
use Rattle.made_line.proofs.Numbers.{after_draws-first}
use Rattle.made_line.proofs.runs.run.Goals as goal

pub returns-clause-drawn : goal.returns-clause-drawn
returns-clause-drawn c =
    c.in_ok-legs.ensures.drawn ∙ ap (λ x. after_draws x 64) c.draw-length_m.ensures.next ∙ after_draws-first _ 64 65 refl
