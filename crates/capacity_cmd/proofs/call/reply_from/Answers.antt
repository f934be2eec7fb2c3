use Rattle.capacity_cmd.proofs.Outcomes.{reply_more}
use Rattle.capacity_cmd.proofs.call.reply_from.Goals as goal

pub returns-in_ok-reply_alone-in-Ok-clause-replies : goal.returns-in_ok-reply_alone-in-Ok-clause-replies
returns-in_ok-reply_alone-in-Ok-clause-replies g c =
    reply_more _ _ c.in_ok-reply_alone-in-Ok.field-0 (rw c.in-Ok.is at c.in_ok-given.ensures.found).ends
    c.in_ok-reply_alone-in-Ok.ensures
