use Rattle.capacity_cmd.proofs.SessionCalls as SessionCalls
use Rattle.capacity_cmd.proofs.laws.session_writes_journal.Goals as goal

pub returns : goal.returns
returns g c = λ word workers source source' sink sink' asks answers. SessionCalls.session_writes_journal _ _ workers word asks answers
