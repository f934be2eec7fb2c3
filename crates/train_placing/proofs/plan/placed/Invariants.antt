use Rattle.std.proofs.Common.{◌≡◌, map}
use Rattle.std.specs.List.{range_with_len}
use Rattle.train_placing.specs.Laid.{placed_with}
use Rattle.train_placing.proofs.plan.placed.Given as goal

abbrev pub invariant-loop-i : goal.invariant-loop-i
invariant-loop-i l = l.list ≡ map (placed_with l.rows l.entries l.ties) (range_with_len 0 l.i)
