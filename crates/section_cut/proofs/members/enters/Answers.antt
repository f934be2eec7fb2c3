use Rattle.std.proofs.Common.{rules}
use Rattle.section_cut.proofs.members.enters.Goals as goal

pub returns-then-from-entry : goal.returns-then-from-entry
returns-then-from-entry c = search rules

pub returns-else-from-entry : goal.returns-else-from-entry
returns-else-from-entry c = search rules
