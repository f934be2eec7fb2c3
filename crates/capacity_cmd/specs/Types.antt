-- The types of the code that definitions speak of.
pub use Rattle.capacity_cmd.specs.declared.accepted.Accepted.{Accepted}
pub use Rattle.capacity_cmd.specs.declared.command.Command.{Command}
pub use Rattle.capacity_cmd.specs.declared.given_delay.GivenDelay.{GivenDelay}
pub use Rattle.capacity_cmd.specs.declared.section_heads.Head.{Head}
pub use Rattle.capacity_cmd.specs.declared.input.BaseSoFar.{BaseSoFar}
pub use Rattle.capacity_cmd.specs.declared.input.InputSoFar.{InputSoFar}
pub use Rattle.capacity_cmd.specs.declared.input.TextRows.{TextRows}
pub use Rattle.capacity_cmd.specs.declared.refusal.Refusal.{Refusal}
pub use Rattle.capacity_cmd.specs.declared.reply.CallReply.{CallReply}
pub use Rattle.capacity_cmd.specs.declared.status.Cause.{Cause}
pub use Rattle.capacity_cmd.specs.declared.status.Status.{Status}
pub use Rattle.capacity_cmd.specs.declared.stopped.Stopped.{Stopped}
