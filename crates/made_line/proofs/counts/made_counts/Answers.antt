use Rattle.std.proofs.Common.{refl}
use Rattle.made_line.proofs.HowMany.{length_base, length_scripts, all_tasks, all_edits}
use Rattle.made_line.proofs.counts.made_counts.Goals as goal

pub returns : goal.returns
returns c = record {
  base = length_base _;
  planners = length_scripts _;
  tasks = all_tasks _;
  edits = all_edits _;
  workers = refl;
}
