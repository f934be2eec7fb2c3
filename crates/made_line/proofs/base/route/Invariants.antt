use Rattle.std.proofs.Common.{◌≡◌}
use Rattle.made_line.specs.Base.{signal_names}
use Rattle.made_line.proofs.base.route.Given as goal

abbrev pub invariant-loop-i : goal.invariant-loop-i
invariant-loop-i l = l.signals ≡ signal_names l.i
