use Rattle.std.proofs.Common.{◌-◌}
use Rattle.line_cutter.proofs.longest.+narrowed.Given as goal

abbrev pub decreases-narrowed : goal.decreases-narrowed
decreases-narrowed l = l.over - l.fits
