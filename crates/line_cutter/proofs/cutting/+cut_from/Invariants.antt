use Rattle.std.proofs.Common.{◌-◌}
use Rattle.plan_model.specs.Members.{block_count}
use Rattle.line_cutter.proofs.cutting.+cut_from.Given as goal

abbrev pub decreases-cut_from : goal.decreases-cut_from
decreases-cut_from l = block_count l.line.now - l.first
