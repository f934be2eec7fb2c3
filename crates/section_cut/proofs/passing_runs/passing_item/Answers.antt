use Rattle.section_cut.specs.ReachedRuns.{passes_item}
use Rattle.section_cut.proofs.PathsStay.{any_told}
use Rattle.section_cut.proofs.passing_runs.passing_item.Goals as goal

pub returns-in-Run : goal.returns-in-Run
returns-in-Run c = any_told (passes_item c.args.after.now c.args.item.now) c.args.after.now.runs c.all_runs.result c.all_runs.ensures
