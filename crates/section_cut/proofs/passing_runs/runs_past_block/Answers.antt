use Rattle.line_tables.specs.Passing.{passes_block}
use Rattle.section_cut.proofs.PathsStay.{read_told, any_told}
use Rattle.section_cut.proofs.passing_runs.runs_past_block.Goals as goal

pub returns : goal.returns
returns c = read_told (passes_block c.args.after.now c.args.name.now) c.args.after.now.runs c.runs_past_block.result c.runs_past_block.ensures

pub returns-then-not-has : goal.returns-then-not-has
returns-then-not-has c = any_told (passes_block c.args.after.now c.args.name.now) c.args.after.now.runs c.all_runs.result c.all_runs.ensures
