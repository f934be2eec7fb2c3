use Rattle.capacity_cmd.specs.Ends.{IsMadeText}
use Rattle.capacity_cmd.proofs.Counted.{ends_unread, writes_sent, complete_sent}
use Rattle.capacity_cmd.proofs.call.run_made.Goals as goal

pub returns-in-Ok-clause-ends : goal.returns-in-Ok-clause-ends
returns-in-Ok-clause-ends g c =
    ends_unread (IsMadeText c.args.n) _ c.in-Ok.reply c.send.result c.in-Ok.ensures c.send.ensures

pub returns-in-Ok-clause-writes : goal.returns-in-Ok-clause-writes
returns-in-Ok-clause-writes g c =
    writes_sent (IsMadeText c.args.n) _ c.in-Ok.reply c.send.result c.in-Ok.ensures c.send.ensures

pub returns-in-Ok-clause-complete : goal.returns-in-Ok-clause-complete
returns-in-Ok-clause-complete g c =
    complete_sent (IsMadeText c.args.n) _ c.in-Ok.reply c.send.result c.in-Ok.ensures c.send.ensures
