use Rattle.section_cut.specs.ReachedRuns.{passes}
use Rattle.section_cut.proofs.PathsStay.{any_told}
use Rattle.section_cut.proofs.passing_runs.passing_runs.Goals as goal

pub returns-in-Drop : goal.returns-in-Drop
returns-in-Drop c = any_told (passes c.args.after.now c.args.edit.now) c.args.after.now.runs c.all_runs.result c.all_runs.ensures
