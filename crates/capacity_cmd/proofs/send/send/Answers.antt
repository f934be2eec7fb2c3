use Rattle.std.proofs.Common.{inl, rules}
use Rattle.capacity_cmd.proofs.send.send.Goals as goal

-- the whole text is sent
pub returns-in-Ok : goal.returns-in-Ok
returns-in-Ok g c = inl (search rules)
