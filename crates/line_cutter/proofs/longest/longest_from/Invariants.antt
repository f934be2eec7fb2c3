use Rattle.std.proofs.Common.{◌-◌}
use Rattle.line_cutter.specs.Search.{IsFitting}
use Rattle.line_cutter.proofs.longest.longest_from.Given as goal

abbrev pub invariant-loop-fits : goal.invariant-loop-fits
invariant-loop-fits l = IsFitting l.line l.a l.fits

abbrev pub decreases-loop-fits : goal.decreases-loop-fits
decreases-loop-fits l = l.count - l.fits
