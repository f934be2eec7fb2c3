use Rattle.std.proofs.Common.{◌≡◌, refl, sym, subst}
use Rattle.capacity_cmd.specs.Command.{workers_of}
use Rattle.capacity_cmd.specs.Outcome.{Writes}
use Rattle.capacity_cmd.specs.Ends.{EndsOnAccepted}
use Rattle.capacity_cmd.proofs.texts.text_of.Goals as goal

pub returns-in_ok-text_alone-in-Session : goal.returns-in_ok-text_alone-in-Session
returns-in_ok-text_alone-in-Session g c =
    let text = c.in_ok-text_alone-in-Session.field-0 in
    let none : c.in-Session.field-0 ≡ 0 = subst (λ which. workers_of which ≡ 0) c.in-Session.is c.requires.alone in
    subst (λ which. EndsOnAccepted which c.args.given (Writes text)) (sym c.in-Session.is)
    (text, rw none c.in_ok-text_alone-in-Session.ensures, refl)
