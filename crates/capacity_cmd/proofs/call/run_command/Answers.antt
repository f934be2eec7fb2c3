use Rattle.std.proofs.Common.{inl, inr, rules}
use Rattle.capacity_cmd.proofs.call.run_command.Goals as goal

-- a read failed, or memory ran out
pub returns-in-Err : goal.returns-in-Err
returns-in-Err g c = elim c.in-Err.ensures.why [ inl read ↦ search rules | inr memory ↦ search rules ]
