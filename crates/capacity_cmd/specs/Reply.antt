-- A reply: a text to write, and the status to end with once it is written.
use Rattle.std.specs.Prelude.{◌≡◌, ◌⊎◌}
use Rattle.rail_outside.specs.InCall.{SinkInCall, IsWritten, IsBrokenOff, WriteFailed, NoWriteFailed}
use Rattle.capacity_cmd.specs.Types.{CallReply, Status}
use Rattle.capacity_cmd.specs.declared.status.Status.TheVariants.{WriteFault}
use Rattle.capacity_cmd.specs.Outcome.{Outcome, outcome_text, outcome_status}

-- the reply says this outcome
pub record Says (outcome : Outcome) (reply : CallReply) : Type 0 where
  pub text : reply.text ≡ outcome_text outcome
  pub status : reply.status ≡ outcome_status outcome

-- the reply says an outcome that a call may have
pub record IsCallReply (MayEnd : Outcome → Type 0) (reply : CallReply) : Type 0 where
  pub outcome : Outcome
  pub ends : MayEnd outcome
  pub said : Says outcome reply

-- the reply is sent: its whole text is written and flushed, and the status is its status, or a write failed
abbrev pub IsSent : {K : Type 0} → SinkInCall K → CallReply → Status → Type 0
IsSent sink reply status =
    ((status ≡ reply.status) × IsWritten sink reply.text × NoWriteFailed sink)
    ⊎ ((status ≡ WriteFault) × IsBrokenOff sink reply.text × WriteFailed sink)
