use Rattle.std.proofs.Common.{◌≡◌, ◌++◌, drop}
use Rattle.row_text.specs.Lines.{leg_times}
use Rattle.row_text.proofs.leg_times.leg_times.Given as goal

abbrev pub invariant-loop-i : goal.invariant-loop-i
invariant-loop-i l = l.times ++ leg_times (drop l.i l.legs) ≡ leg_times l.legs
