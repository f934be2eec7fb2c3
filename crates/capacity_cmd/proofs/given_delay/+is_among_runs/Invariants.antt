use Rattle.std.proofs.Common.{length}
use Rattle.capacity_cmd.proofs.given_delay.+is_among_runs.Given as goal

abbrev pub decreases-is_among_runs : goal.decreases-is_among_runs
decreases-is_among_runs l = length l.words.now
