-- What an input gives to a command, or the reply that refuses it.
use Rattle.std.specs.Prelude.{Result, Ok, Err}
use Rattle.plan_book.specs.declared.book.TheConstants.{PLANNERS}
use Rattle.capacity_cmd.specs.Types.{Command, Accepted, CallReply}
use Rattle.capacity_cmd.specs.declared.limit.TheConstants.{INPUT_BYTES}
use Rattle.capacity_cmd.specs.Outcome.{Outcome}
use Rattle.capacity_cmd.specs.InputSoFar.{IsWithin}
use Rattle.capacity_cmd.specs.Ends.{EndsOnAccepted}
use Rattle.capacity_cmd.specs.Reply.{IsCallReply}

-- what is given is within the limits of a session, and what the command ends with on it is an outcome that the call may
-- have
pub record IsGiven (command : Command) (MayEnd : Outcome → Type 0) (given : Accepted) : Type 0 where
  pub within : IsWithin PLANNERS INPUT_BYTES given
  pub ends : (outcome : Outcome) → EndsOnAccepted command given outcome → MayEnd outcome

-- something is given, or the reply says an outcome that the call may have
abbrev pub GivesOrRefuses : Command → (Outcome → Type 0) → Result Accepted CallReply → Type 0
GivesOrRefuses command MayEnd (Ok given) = IsGiven command MayEnd given
GivesOrRefuses command MayEnd (Err reply) = IsCallReply MayEnd reply
