use Rattle.std.proofs.Common.{List, Option, Some, sym, ap, ◌∙◌, subst}
use Rattle.capacity_cmd.specs.declared.given_delay.GivenDelay.{GivenDelay}
use Rattle.capacity_cmd.specs.Ends.{EndsOnNamed, with_delays, IsDelaysText}
use Rattle.capacity_cmd.specs.Stopped.{Makes}
use Rattle.capacity_cmd.proofs.delays.text_on_cut.Goals as goal

pub returns-in-Some : goal.returns-in-Some
returns-in-Some c =
    subst (λ (given : Option (List GivenDelay)). Makes (EndsOnNamed IsDelaysText (with_delays given c.args.cut.now)) c.text_of_given.result)
    (ap (λ (given : List GivenDelay). Some given) c.slice.ensures ∙ sym c.in-Some.is) c.text_of_given.ensures
