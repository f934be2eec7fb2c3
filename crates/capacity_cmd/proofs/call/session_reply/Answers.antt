use Rattle.capacity_cmd.proofs.Outcomes.{reply_more}
use Rattle.capacity_cmd.proofs.call.session_reply.Goals as goal

pub returns-in-Ok-clause-replies : goal.returns-in-Ok-clause-replies
returns-in-Ok-clause-replies g c =
    reply_more _ _ c.in_ok-reply_on_threads-in-Ok.field-0 (rw c.in-Ok.is at c.in_ok-given.ensures.found).ends
    c.in_ok-reply_on_threads-in-Ok.ensures
