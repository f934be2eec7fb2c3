use Rattle.std.proofs.Common.{Err, refl, ap, ◌∙◌}
use Rattle.std.proofs.lemmas.Result.{IfOk-weaker}
use Rattle.capacity_cmd.specs.Outcome.{Writes, Refuses}
use Rattle.capacity_cmd.specs.Ends.{EndsOnAccepted}
use Rattle.capacity_cmd.specs.Reply.{Says, IsCallReply}
use Rattle.capacity_cmd.proofs.reply.reply_alone.Goals as goal

pub returns-in-Ok : goal.returns-in-Ok
returns-in-Ok g c = record {
  outcome = Writes c.in-Ok.text;
  ends = rw c.in-Ok.is at c.text_of.ensures;
  said = record { text = refl; status = refl };
}

pub returns-in-Err-Refused : goal.returns-in-Err-Refused
returns-in-Err-Refused g c =
    let arm = c.in-Err-Refused in
    let without = rw (arm.is ∙ ap Err arm.field-0-is) at c.text_of.ensures in
    IfOk-weaker c.refusal.result (Says (Refuses 0 arm.cause)) (IsCallReply (EndsOnAccepted c.args.command.now c.args.given))
    (λ reply said. record { outcome = Refuses 0 arm.cause; ends = without; said = said })
    c.refusal.ensures
