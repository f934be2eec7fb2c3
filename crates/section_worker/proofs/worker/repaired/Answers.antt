use Rattle.std.proofs.Common.{rules}
use Rattle.section_worker.proofs.worker.repaired.Goals as goal

-- at most the uses of the rows that aren't kept are taken
pub returns-in-Some-clause-reading : goal.returns-in-Some-clause-reading
returns-in-Some-clause-reading g c = search rules
