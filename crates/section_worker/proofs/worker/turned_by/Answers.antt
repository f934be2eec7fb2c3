use Rattle.std.proofs.Common.{rules}
use Rattle.section_worker.proofs.worker.turned_by.Goals as goal

pub returns-in-Err-Stale : goal.returns-in-Err-Stale
returns-in-Err-Stale c = search rules
