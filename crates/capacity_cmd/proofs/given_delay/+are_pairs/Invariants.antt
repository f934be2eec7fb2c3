use Rattle.std.proofs.Common.{length}
use Rattle.capacity_cmd.proofs.given_delay.+are_pairs.Given as goal

abbrev pub decreases-are_pairs : goal.decreases-are_pairs
decreases-are_pairs l = length l.words.now
