use Rattle.std.proofs.Common.{rules}
use Rattle.section_cut.proofs.reached_runs.cut_of_rows.Goals as goal

pub returns : goal.returns
returns c = search rules
